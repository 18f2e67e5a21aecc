-- Managed heap IDs. HDF5 File Format Specification 3.0, III.G, 'Fractal Heap ID for Managed
-- Objects': Version and Type, Offset, Length. Where the original reads an ID otherwise than the
-- format, its reading stands here (docs/DIFFERENCES.md): it counts Offset in bits, the text in
-- bytes.
use Rattle.std.specs.Prelude.{ℕ, ◌+◌, ◌*◌, ◌^◌, ◌/◌, ◌%◌, ◌==◌, ◌≤◌, ◌≡◌, min}
use Rattle.std.specs.Prelude.{List, ◌++◌, length, nat_lt, slice_index, Result, Ok}
use Rattle.numbers.specs.Numbers.{bytes_needed}
use Rattle.fields.specs.LittleEndian.{le_at}
use Rattle.refusals.specs.Steps.{◌>>=◌, required}
use Rattle.refusals.specs.Refusals.{answer}
use Rattle.refusals.specs.declared.answer.Answer.{Answer}
use Rattle.refusals.specs.declared.FormatError.{FormatError}
use Rattle.refusals.specs.declared.FormatError.TheVariants.{UnexpectedEof, InvalidHeapIdType}
use Rattle.reading.specs.declared.rows.DoublingTable.{DoublingTable}
use Rattle.ids.specs.IdTypes.{type_of}
use Rattle.ids.specs.declared.decode.ManagedId.{ManagedId}

-- how many bytes Length has: as many as the smaller of Maximum Direct Block Size and Maximum Size
-- of Managed Objects needs ('Fractal Heap Header'), none where that is 0
abbrev pub length_bytes_in : (table : DoublingTable) (max_managed_object_size : ℕ) → ℕ
length_bytes_in table max_managed_object_size =
    bytes_needed (min table.max_direct_block_size max_managed_object_size)

-- of a number its low bits, so many, are Offset, and the bits behind them, in so many bytes, Length
abbrev pub split_id : (heap_bits length_bytes number : ℕ) → ManagedId
split_id heap_bits length_bytes number = record {
  offset = number % 2 ^ heap_bits;
  length = number / 2 ^ heap_bits % 2 ^ (8 * length_bytes);
}

-- the managed ID in a heap with this table and this Maximum Size of Managed Objects: the number is
-- that of the first eight bytes after byte 0, or of as many as there are
abbrev pub decoded_id : (table : DoublingTable) (max_managed_object_size : ℕ) (id : List ℕ)
    → Result ManagedId FormatError
decoded_id table max_managed_object_size id = do
  _ ← required (nat_lt 0 (length id)) (UnexpectedEof 1 0)
  let kind = type_of (slice_index id 0)
  _ ← required (kind == 0) (InvalidHeapIdType kind)
  Ok (split_id table.max_heap_size (length_bytes_in table max_managed_object_size) (le_at id 1 8))

-- heap offset and length
abbrev pub id_report : (id : ManagedId) → Answer
id_report id = answer 0 id.offset id.length

-- an ID has all bits of Version and Type, Offset and Length, as far as these lie in the first eight
-- bytes after byte 0
abbrev pub HasFields : (table : DoublingTable) (max_managed_object_size : ℕ) (id : List ℕ) → Type 0
HasFields table max_managed_object_size id =
    8 + min 64 (table.max_heap_size + 8 * length_bytes_in table max_managed_object_size)
    ≤ 8 * length id

-- what an ID is answered that has any bytes behind these fields is what it is answered without them
abbrev pub IgnoresPadding : (table : DoublingTable) (max_managed_object_size : ℕ) (id : List ℕ)
    (answered : Result ManagedId FormatError) → Type 0
IgnoresPadding table max_managed_object_size id answered = (fields padding : List ℕ)
    → id ≡ fields ++ padding → HasFields table max_managed_object_size fields
    → answered ≡ decoded_id table max_managed_object_size fields
