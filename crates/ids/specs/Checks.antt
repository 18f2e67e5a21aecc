-- The tests before a managed ID is written, in their order. HDF5 File Format Specification 3.0,
-- III.G, 'Fractal Heap ID for Managed Objects'; the sizes of Offset and Length are those of
-- docs/RULES.md (docs/DIFFERENCES.md).
use Rattle.std.specs.Prelude.{ℕ, ◌+◌, ◌*◌, ◌^◌, ◌&&◌, nat_le, nat_lt, Result}
use Rattle.refusals.specs.Steps.{◌>>=◌, required}
use Rattle.refusals.specs.Refusals.{test_report}
use Rattle.refusals.specs.declared.answer.Answer.{Answer}
use Rattle.refusals.specs.declared.FormatError.{FormatError}
use Rattle.refusals.specs.declared.FormatError.TheVariants.{SliceTooShort, HeapIdTooLarge}
use Rattle.table.specs.Table.{Table, fixed, heap_space}
use Rattle.table.specs.Sizes.{offset_bytes}
use Rattle.ids.specs.Written.{length_bytes}

-- how many bytes an ID has: Version and Type in one, Offset in as many as the heap's bits need,
-- Length
abbrev pub id_length : (table : Table) → ℕ
id_length table = 1 + offset_bytes table + length_bytes

-- an ID into so many lent bytes: 16 where offset or length is too large for it, then 13
abbrev pub id_checked : (table : Table) (offset size lent : ℕ) → Result (Unit {0}) FormatError
id_checked table offset size lent = do
  let fits = nat_lt offset (heap_space table) && nat_lt size (2 ^ (8 * length_bytes))
  _ ← required fits (HeapIdTooLarge offset size)
  required (nat_le (id_length table) lent) (SliceTooShort (id_length table) lent)

-- what C is told of it: 0 and two zeros, or the refusal
abbrev pub written_id_report : (offset size lent : ℕ) → Answer
written_id_report offset size lent =
    test_report (id_checked fixed offset size lent)
