-- What is counted, and what the block at `base` has still to add, give the whole; each level leaves a smaller rest.
use Rattle.table.proofs.Locating.{Entering}
use Rattle.table.proofs.slot_places.entered_blocks.Given as goal

abbrev pub invariant-loop-at : goal.invariant-loop-at
invariant-loop-at l = Entering l.offset_size l.end l.start l.total l.base l.local

abbrev pub decreases-loop-at : goal.decreases-loop-at
decreases-loop-at l = l.local
