-- The ID writer accepts an offset and a size that are small enough.
use Rattle.std.proofs.Common.{◌≡◌, ℕ, ◌^◌, ◌<◌, ◌≤◌, Ok, arith}
use Rattle.std.proofs.lemmas.Bool.Decides.{nat_tests}
use Rattle.table.specs.Table.{fixed}
use Rattle.ids.specs.Checks.{id_checked}

pub id-passes : (offset size : ℕ) → offset < 2 ^ 40 → size < 2 ^ 16 → (lent : ℕ) → 8 ≤ lent
    → id_checked fixed offset size lent ≡ Ok tt
id-passes offset size lo hi lent room = grind (arith, nat_tests)
