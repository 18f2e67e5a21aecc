-- What is left of `direct_blocks_fill_their_slots`: the theorem.
use Rattle.region_write.proofs.RegionLaws.{directs-fill}
use Rattle.region_write.proofs.laws.direct_blocks_fill_their_slots.Goals as goal

pub returns : goal.returns
returns c = directs-fill
