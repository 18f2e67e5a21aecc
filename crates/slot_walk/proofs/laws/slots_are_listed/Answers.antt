-- What is left of `slots_are_listed`: the law.
use Rattle.slot_walk.proofs.Listing.{slots-listed}
use Rattle.slot_walk.proofs.laws.slots_are_listed.Goals as goal

pub returns : goal.returns
returns c = slots-listed
