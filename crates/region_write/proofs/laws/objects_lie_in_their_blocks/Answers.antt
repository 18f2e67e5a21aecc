-- What is left of `objects_lie_in_their_blocks`: the theorem.
use Rattle.region_write.proofs.RegionLaws.{objects-lie}
use Rattle.region_write.proofs.laws.objects_lie_in_their_blocks.Goals as goal

pub returns : goal.returns
returns c = objects-lie
