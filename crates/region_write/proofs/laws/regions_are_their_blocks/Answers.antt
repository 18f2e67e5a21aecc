-- What is left of `regions_are_their_blocks`: the theorem.
use Rattle.region_write.proofs.RegionLaws.{regions-summed}
use Rattle.region_write.proofs.laws.regions_are_their_blocks.Goals as goal

pub returns : goal.returns
returns c = regions-summed
