-- The ID of a managed object. HDF5 File Format Specification 3.0, III.G, 'Fractal Heap ID for
-- Managed Objects': Version and Type in one byte, both 0, then Offset, then Length; the sizes of
-- the last two are those of docs/RULES.md (docs/DIFFERENCES.md).
use Rattle.std.specs.Prelude.{ℕ, ◌^◌, ◌≤◌, ◌≡◌, List, ◌++◌, Ok}
use Rattle.fields.specs.LittleEndian.{le}
use Rattle.table.specs.Table.{Table, fixed}
use Rattle.table.specs.Sizes.{offset_bytes}
use Rattle.reading.specs.declared.rows.DoublingTable.{DoublingTable}
use Rattle.ids.specs.Decoded.{decoded_id}

-- how many bytes Length takes
abbrev pub length_bytes : ℕ
length_bytes = 2

-- the bytes of an ID: Offset in as many as the heap's bits need, then Length
abbrev pub managed_id : (table : Table) (offset size : ℕ) → List ℕ
managed_id table offset size = le 1 0 ++ (le (offset_bytes table) offset ++ le length_bytes size)

-- a header's numbers are those of the table
pub record HasTable (numbers : DoublingTable) (table : Table) : Type 0 where
  pub table_width : numbers.table_width ≡ 2 ^ table.width_bits
  pub starting_block_size : numbers.starting_block_size ≡ 2 ^ table.start_bits
  pub max_direct_block_size : numbers.max_direct_block_size ≡ 2 ^ table.direct_bits
  pub max_heap_size : numbers.max_heap_size ≡ table.heap_bits

-- an object of this size is managed under a header with this Maximum Size of Managed Objects
abbrev pub IsManaged : (size max_managed_object_size : ℕ) → Type 0
IsManaged size max_managed_object_size = size ≤ max_managed_object_size

-- the ID decodes to its pair under every header of the fixed geometry under which the object is
-- managed
abbrev pub IdReadsBack : (offset size : ℕ) → Type 0
IdReadsBack offset size = (numbers : DoublingTable) (max_managed_object_size : ℕ)
    → HasTable numbers fixed → IsManaged size max_managed_object_size
    → decoded_id numbers max_managed_object_size (managed_id fixed offset size)
    ≡ Ok (record { offset = offset; length = size })
