-- The slot to find is that of `past` in the block that begins so many bytes before, and each level leaves a smaller
-- rest.
use Rattle.table.proofs.Locating.{Loc}
use Rattle.table.proofs.slot_places.locate.Given as goal

abbrev pub invariant-loop-at : goal.invariant-loop-at
invariant-loop-at l = Loc l.offset l.past

abbrev pub decreases-loop-at : goal.decreases-loop-at
decreases-loop-at l = l.past
