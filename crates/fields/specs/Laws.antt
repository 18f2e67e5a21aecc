-- What holds of stores at every width.
use Rattle.std.specs.Prelude.{ℕ, ◌+◌, ◌-◌, ◌*◌, ◌%◌, ◌^◌, ◌≤◌, ◌≡◌, List, length, replicate}
use Rattle.std.specs.Prelude.{take, drop}
use Rattle.fields.specs.LittleEndian.{le, le_at, put}

-- `new` is `old` with the low bytes of the number at the place: they read back, and all else is as
-- it was
pub record Stored (old new : List ℕ) (place width number : ℕ) : Type 0 where
  pub reads : le_at new place width ≡ number % 2 ^ (8 * width)
  pub same_length : length new ≡ length old
  pub before : take place new ≡ take place old
  pub after : drop (place + width) new ≡ drop (place + width) old

abbrev pub StoresReadBack : Type 0
StoresReadBack =
    (bytes : List ℕ) (place width number : ℕ) → place + width ≤ length bytes
    → Stored bytes (put bytes place (le width number)) place width number

-- the low bytes of 2^64 - 1 are those of the undefined address
abbrev pub OnesUndefined : Type 0
OnesUndefined = (width : ℕ) → width ≤ 8 → le width (2 ^ 64 - 1) ≡ replicate width 0xFF
