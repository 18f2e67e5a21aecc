-- So many slots are still to be added.
use Rattle.slot_walk.proofs.Searching.{Left}
use Rattle.slot_walk.proofs.finding.end_of_row.Given as goal

abbrev pub invariant-loop-left : goal.invariant-loop-left
invariant-loop-left l = Left l.at l.size l.geometry.width l.end l.left

abbrev pub decreases-loop-left : goal.decreases-loop-left
decreases-loop-left l = l.left
