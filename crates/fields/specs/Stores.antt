-- What is refused at a store of an address. HDF5 File Format Specification 3.0, I.A (addresses).
use Rattle.std.specs.Prelude.{ℕ, ◌+◌, nat_le, Result}
use Rattle.numbers.specs.Numbers.{saturated}
use Rattle.fields.specs.Widths.{legal}
use Rattle.refusals.specs.Steps.{◌>>=◌, required}
use Rattle.refusals.specs.declared.FormatError.{FormatError}
use Rattle.refusals.specs.declared.FormatError.TheVariants.{InvalidOffsetSize, SliceTooShort}

-- an address of this width, from the place on of so many lent bytes: first the width is tested,
-- then that the lent bytes are not too short
abbrev pub store_ensured : (lent place width : ℕ) → Result (Unit {0}) FormatError
store_ensured lent place width = do
  _ ← required (legal width) (InvalidOffsetSize width)
  required (nat_le (place + width) lent) (SliceTooShort (saturated (place + width)) lent)
