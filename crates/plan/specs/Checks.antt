-- The tests before any planning, in their order.
use Rattle.std.specs.Prelude.{ℕ, suc, max, List, [], ◌∷◌, length, nat_le, Result, Ok}
use Rattle.fields.specs.Widths.{legal}
use Rattle.refusals.specs.Steps.{◌>>=◌, required}
use Rattle.refusals.specs.declared.FormatError.{FormatError}
use Rattle.refusals.specs.declared.FormatError.TheVariants.{InvalidOffsetSize, ObjectTooLarge}
use Rattle.refusals.specs.declared.FormatError.TheVariants.{SliceTooShort}
use Rattle.table.specs.Table.{fixed}
use Rattle.table.specs.Sizes.{max_managed}

-- no size is above the limit; else the first that is, counted from the index on: 11
unfoldable pub sizes_checked : (limit index : ℕ) (sizes : List ℕ) → Result (Unit {0}) FormatError
sizes_checked limit index [] = Ok tt
sizes_checked limit index (size ∷ sizes) = do
  _ ← required (nat_le size limit) (ObjectTooLarge index size)
  sizes_checked limit (suc index) sizes

-- a list has the places that are needed: else 13
abbrev pub places_checked : (needed lent : ℕ) → Result (Unit {0}) FormatError
places_checked needed lent = required (nat_le needed lent) (SliceTooShort needed lent)

-- addresses may have so many bytes: else 2
abbrev pub width_checked : (offset_size : ℕ) → Result (Unit {0}) FormatError
width_checked offset_size = required (legal offset_size) (InvalidOffsetSize offset_size)

-- the tests before any planning, for lists of so many places for offsets and blocks: 2, 13 offsets,
-- 13 blocks, 11. Without objects there is still one block
abbrev pub input_checked : (sizes : List ℕ) (offsets blocks offset_size : ℕ)
    → Result (Unit {0}) FormatError
input_checked sizes offsets blocks offset_size = do
  _ ← width_checked offset_size
  _ ← places_checked (length sizes) offsets
  _ ← places_checked (max 1 (length sizes)) blocks
  sizes_checked (max_managed fixed offset_size) 0 sizes
