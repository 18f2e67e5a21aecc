-- Where an object of a heap lies, each block on the way tested before it is used. Sought are the
-- `len` bytes at heap offset `target`; the other words are those of Blocks.
use Rattle.std.specs.Prelude.{ℕ, ◌+◌, ◌-◌, List, nat_le, Result, Ok}
use Rattle.refusals.specs.Steps.{◌>>=◌, required}
use Rattle.refusals.specs.declared.FormatError.{FormatError}
use Rattle.refusals.specs.declared.FormatError.TheVariants.{UnexpectedEof}
use Rattle.numbers.specs.Numbers.{saturated}
use Rattle.fields.specs.declared.place.Place.{Place}
use Rattle.reading.specs.declared.rows.DoublingTable.{DoublingTable}
use Rattle.reading.specs.Walk.{Taking, root_by}
use Rattle.checked_reading.specs.declared.Checked.{Checked}
use Rattle.checked_reading.specs.Blocks.{indirect_checked, direct_checked}

-- the object in the direct block of this size at this address that begins at heap offset start: it
-- ends in its block. Its end is compared as it is; the law `EndsAreCut` says that the end cut to
-- 2^64 - 1 gives the same.
unfoldable pub object_in : (target len address size start : ℕ) → Result Place FormatError
object_in target len address size start = do
  let distance = target - start
  _ ← required (nat_le (distance + len) size) (UnexpectedEof (saturated (distance + len)) size)
  Ok (record { position = address + distance; length = len })

-- the same, once the block has passed its tests
unfoldable pub object_checked : (tests : Checked) (table : DoublingTable) (file : List ℕ)
    (offset_size target len address size start : ℕ) → Result Place FormatError
object_checked tests table file offset_size target len address size start = do
  _ ← direct_checked tests table file offset_size address size start
  object_in target len address size start

-- a walk that tests each block
abbrev pub checked : (tests : Checked) (table : DoublingTable) (file : List ℕ)
    (offset_size target len : ℕ) → Taking
checked tests table file offset_size target len = record {
  opened = λ address rows start. indirect_checked tests table file offset_size address rows start;
  object = λ address size start.
      object_checked tests table file offset_size target len address size start;
}

-- the object, from the root block of so many rows at this address on
abbrev pub root_checked : (tests : Checked) (table : DoublingTable) (file : List ℕ)
    (address rows target len offset_size : ℕ) → Result Place FormatError
root_checked tests table file address rows target len offset_size =
    root_by (checked tests table file offset_size target len)
    table file address rows target len offset_size
