-- What is left of `slots_are_counted`: the law.
use Rattle.slot_walk.proofs.Counts.{slots-counted}
use Rattle.slot_walk.proofs.laws.slots_are_counted.Goals as goal

pub returns : goal.returns
returns c = slots-counted
