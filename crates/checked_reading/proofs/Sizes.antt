-- Sizes of blocks that were cut to 64 bits.
use Rattle.std.proofs.Common.{◌≡◌, ◌∙◌, ℕ, ◌+◌, ◌-◌, ◌*◌, ◌^◌, ◌<◌, ◌≤◌, List, length, take, drop, ap, arith}
use Rattle.std.proofs.Common.{length-drop, length-take-le}
use Rattle.std.proofs.lemmas.Grind.{common_steps}
use Rattle.numbers.specs.Numbers.{saturated}
use Rattle.numbers.proofs.Saturating.{sat-mul}
use Rattle.fields.specs.Fields.{len_ensured}
use Rattle.reading.specs.declared.rows.DoublingTable.{DoublingTable}
use Rattle.reading.specs.Blocks.{entries_place}
use Rattle.checked_reading.specs.Blocks.{indirect_size}

-- each product and the sum is cut, each before the next
pub size_cut : (table : DoublingTable) (w n x y r : ℕ) → x ≡ saturated (n * table.table_width)
    → y ≡ saturated (x * w) → r ≡ entries_place table w
    → saturated (y + (r + 4)) ≡ saturated (indirect_size table w n)
size_cut table w n x y r e f g =
    let m : y ≡ saturated (n * table.table_width * w)
    = f ∙ ap (λ (z : ℕ). saturated (z * w)) e ∙ sat-mul (n * table.table_width) w in
    omega (arith, m, g)

-- a size that was cut is tested as it was before
pub length-tested : (s : List ℕ) (a z l : ℕ) → z ≡ saturated l → length s < 2 ^ 63
    → len_ensured s a z ≡ len_ensured s a l
length-tested s a z l e h = grind (arith, common_steps)

-- the bytes of a block that lies in the file
pub part_length : (s : List ℕ) (a z : ℕ) → a + z ≤ length s → length (take z (drop a s)) ≡ z
part_length s a z h = length-take-le z (drop a s) (rw length-drop (omega arith))

-- and one that has passed was not cut
pub size-uncut : (l : ℕ) (s : List ℕ) (a z : ℕ) → z ≡ saturated l → a + z ≤ length s → length s < 2 ^ 63 → z ≡ l
size-uncut l s a z e room h = omega arith

pub indirect-room : (table : DoublingTable) (w n : ℕ) (s : List ℕ) (a z : ℕ) → z ≡ indirect_size table w n
    → a + z ≤ length s → entries_place table w + 4 ≤ length (take (a + z - a) (drop a s))
indirect-room table w n s a z e room =
    let i : a + z - a ≡ z = omega arith in
    rw i (rw (part_length s a z room) (omega arith))
