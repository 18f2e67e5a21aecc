-- What is left of `read_up_to_eight`: the eight bytes that end there, shifted.
use Rattle.std.proofs.Common.{arith}
use Rattle.checked_reading.proofs.Stored.{last-stored}
use Rattle.checked_reading.proofs.blocks.read_up_to_eight.Goals as goal

pub returns : goal.returns
returns c =
    let asked = c.requires in
    rw c.read_u64_le.ensures
    (last-stored _ (λ j. omega (arith, c.type_inv.block j)) _ _ asked.behind asked.few (omega arith) asked.room)
