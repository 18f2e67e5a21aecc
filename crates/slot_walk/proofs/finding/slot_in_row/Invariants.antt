-- The slots that are left give the same.
use Rattle.slot_walk.proofs.Searching.{SoughtInRow}
use Rattle.slot_walk.proofs.finding.slot_in_row.Given as goal

abbrev pub invariant-loop-left : goal.invariant-loop-left
invariant-loop-left l = SoughtInRow l.offset l.at l.size l.geometry.width l.start l.left

abbrev pub decreases-loop-left : goal.decreases-loop-left
decreases-loop-left l = l.left
