-- What is left of `rows_without_blocks_are_passed`: the theorem.
use Rattle.region_write.proofs.RegionLaws.{rows-passed}
use Rattle.region_write.proofs.laws.rows_without_blocks_are_passed.Goals as goal

pub returns : goal.returns
returns c = rows-passed
