-- What is left of `regions_are_as_long_as_planned`: the theorem.
use Rattle.region_write.proofs.RegionLaws.{regions-fill}
use Rattle.region_write.proofs.laws.regions_are_as_long_as_planned.Goals as goal

pub returns : goal.returns
returns c = regions-fill
