-- Laws of the checked fields, for every width.
use Rattle.std.proofs.Common.{◌≡◌, ℕ, ◌+◌, ◌≤◌, true, List, length, arith}
use Rattle.std.specs.Prelude.{Ok}
use Rattle.std.proofs.lemmas.Grind.{common_steps}
use Rattle.fields.specs.LittleEndian.{le_at}
use Rattle.fields.specs.Widths.{legal}
use Rattle.fields.specs.Fields.{offset_at}

-- a number of a right width with room is read
pub offset_read : (s : List ℕ) (p w : ℕ) → legal w ≡ true → p + w ≤ length s → offset_at s p w ≡ Ok (le_at s p w)
offset_read s p w h l = grind (arith, common_steps)
