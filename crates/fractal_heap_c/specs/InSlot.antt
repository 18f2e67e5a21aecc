-- What C finds in the slot: the first value in its first eight bytes, the second in the next eight.
use Rattle.std.specs.Prelude.{ℕ, ◌≡◌, List, length, take, drop}
use Rattle.fields.specs.LittleEndian.{le_at}

-- the call answered 0, and the slot says where the file has these bytes: their position, and behind
-- it their number
pub record NamesPlace (result : ℕ) (slot file bytes : List ℕ) : Type 0 where
  pub answers_zero : result ≡ 0
  pub names_length : le_at slot 8 8 ≡ length bytes
  pub bytes_there : take (length bytes) (drop (le_at slot 0 8) file) ≡ bytes

-- the call answered 0, and the slot has the heap offset, and behind it the length
pub record NamesPair (result : ℕ) (slot : List ℕ) (offset len : ℕ) : Type 0 where
  pub answers_zero : result ≡ 0
  pub names_offset : le_at slot 0 8 ≡ offset
  pub names_length : le_at slot 8 8 ≡ len
