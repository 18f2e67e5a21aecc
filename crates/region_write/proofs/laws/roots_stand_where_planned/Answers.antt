-- What is left of `roots_stand_where_planned`: the theorem.
use Rattle.region_write.proofs.RegionLaws.{roots-stand}
use Rattle.region_write.proofs.laws.roots_stand_where_planned.Goals as goal

pub returns : goal.returns
returns c = roots-stand
