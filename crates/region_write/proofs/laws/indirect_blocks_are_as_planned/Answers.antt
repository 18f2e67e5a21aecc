-- What is left of `indirect_blocks_are_as_planned`: the theorem.
use Rattle.region_write.proofs.RegionLaws.{indirects-planned-all}
use Rattle.region_write.proofs.laws.indirect_blocks_are_as_planned.Goals as goal

pub returns : goal.returns
returns c = indirects-planned-all
