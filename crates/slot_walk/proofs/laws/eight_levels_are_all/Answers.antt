-- What is left of `eight_levels_are_all`: the law.
use Rattle.slot_walk.proofs.Levels.{levels-enough}
use Rattle.slot_walk.proofs.laws.eight_levels_are_all.Goals as goal

pub returns : goal.returns
returns c = levels-enough
