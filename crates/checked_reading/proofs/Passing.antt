-- What a block tells that has passed its tests, and an object that was found in one; and a read whose offset size is
-- none.
use Rattle.std.proofs.Common.{◌≡◌, ℕ, ◌+◌, ◌-◌, ◌^◌, ◌≤◌, ◌<◌, List, length, take, drop, true, false, arith}
use Rattle.std.specs.Prelude.{Ok, Err, nat_le}
use Rattle.std.proofs.lemmas.Bool.Decides.{nat_tests}
use Rattle.std.proofs.lemmas.Grind.{common_steps}
use Rattle.numbers.specs.Numbers.{saturated}
use Rattle.refusals.specs.declared.FormatError.TheVariants.{InvalidOffsetSize}
use Rattle.fields.specs.Widths.{legal}
use Rattle.fields.specs.declared.place.Place.{Place}
use Rattle.reading.specs.declared.rows.DoublingTable.{DoublingTable}
use Rattle.reading.specs.Walk.{walk_by, direct_at}
use Rattle.checked_reading.specs.declared.Checked.{Checked}
use Rattle.checked_reading.specs.Blocks.{indirect_size, indirect_in, indirect_checked, direct_checked}
use Rattle.checked_reading.specs.Reading.{object_in, object_checked, root_checked}
use Rattle.checked_reading.specs.Laws.{EndsAreCut}

module _ (heap : Checked) (table : DoublingTable) (s : List ℕ) (w : ℕ) where
  pub indirect-within : (a n start : ℕ) → indirect_checked heap table s w a n start ≡ Ok tt
      → a + indirect_size table w n ≤ length s
  unfolding indirect_checked
  indirect-within a n start h = grind (arith, common_steps)

  pub indirect-legal : (a n start : ℕ) → indirect_checked heap table s w a n start ≡ Ok tt → legal w ≡ true
  unfolding indirect_checked
  indirect-legal a n start h = grind (arith, common_steps)

  -- a block whose size z fits the file is tested by its bytes
  pub indirect-tested : (a n start p z : ℕ) → legal w ≡ true → p ≡ a → z ≡ indirect_size table w n
      → p + z ≤ length s
      → indirect_checked heap table s w a n start ≡ indirect_in heap table w (take (p + z - p) (drop p s)) start
  unfolding indirect_checked
  indirect-tested a n start p z l e f room =
      let i : p + z - p ≡ z = omega arith in
      rw (i, f, e) (grind (arith, common_steps))

  pub direct-within : (a size start : ℕ) → direct_checked heap table s w a size start ≡ Ok tt → a + size ≤ length s
  unfolding direct_checked
  direct-within a size start h = grind (arith, common_steps)

  -- the object of len bytes at t, in the block of this size at a
  pub record Held (t len a size start : ℕ) (place : Place) : Type 0 where
    pub width : legal w ≡ true
    pub position : place.position ≡ a + (t - start)
    pub bytes : place.length ≡ len
    pub ends : t - start + len ≤ size
    pub within : a + size ≤ length s

  pub object-held : (t len a size start : ℕ) (place : Place)
      → object_checked heap table s w t len a size start ≡ Ok place → Held t len a size start place
  unfolding object_checked object_in direct_checked
  object-held t len a size start place h = grind (arith, common_steps)

  -- an offset size that is none refuses the first block
  pub indirect-refused : legal w ≡ false → (a n start : ℕ)
      → indirect_checked heap table s w a n start ≡ Err (InvalidOffsetSize w)
  unfolding indirect_checked
  indirect-refused e a n start = grind (arith, common_steps)

  pub object-refused : legal w ≡ false → (t len a size start : ℕ)
      → object_checked heap table s w t len a size start ≡ Err (InvalidOffsetSize w)
  unfolding object_checked direct_checked
  object-refused e t len a size start = grind (arith, common_steps)

  pub root-refused : legal w ≡ false → (a n t len : ℕ)
      → root_checked heap table s a n t len w ≡ Err (InvalidOffsetSize w)
  unfolding walk_by
  root-refused e a n t len = grind (arith, common_steps, indirect-refused e, object-refused e)

-- an object that was found is what is read without tests
pub held-read : (s : List ℕ) (t len a size start : ℕ) (place : Place) → length s < 2 ^ 64
    → place.position ≡ a + (t - start) → place.length ≡ len → t - start + len ≤ size → a + size ≤ length s
    → direct_at s a start t len ≡ Ok place
held-read s t len a size start place small p l e i = grind (arith, common_steps)

-- an end that is cut to 64 bits is compared with a smaller size as it is
cut-compared : (x z : ℕ) → z < 2 ^ 63 → nat_le (saturated x) z ≡ nat_le x z
cut-compared x z h = grind (arith, nat_tests)

pub ends-cut : EndsAreCut
ends-cut heap table s w a size start distance len small h =
    let within = direct-within heap table s w a size start h in
    cut-compared (distance + len) size (omega arith)
