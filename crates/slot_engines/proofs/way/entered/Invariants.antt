-- The block at `base` is entered, and as many as `left` are to be passed yet.
use Rattle.slot_engines.proofs.Entering.{OnWay}
use Rattle.slot_engines.proofs.way.entered.Given as goal

abbrev pub invariant-loop-at : goal.invariant-loop-at
invariant-loop-at l = OnWay l.offset l.place l.base l.past l.left

abbrev pub decreases-loop-at : goal.decreases-loop-at
decreases-loop-at l = l.past
