-- The levels fall: a block that is opened has one fewer, so no more are open at once than the walk is given. What is
-- left of the list of slots gives the answer.
use Rattle.std.proofs.Common.{◌-◌}
use Rattle.slot_walk.specs.Geometry.{table_of}
use Rattle.slot_walk.proofs.Walking.{AtRow, InRow}
use Rattle.slot_walk.proofs.Searching.{Sought}
use Rattle.slot_walk.proofs.finding.+walk_block.Given as goal

abbrev pub decreases-walk_block : goal.decreases-walk_block
decreases-walk_block l = l.levels

abbrev pub invariant-indirect : goal.invariant-indirect
invariant-indirect l =
    InRow (table_of l.geometry) (Sought l.offset l.at l.here) l.levels l.at l.end l.initial.here l.here l.size l.next
    l.left

abbrev pub decreases-indirect : goal.decreases-indirect
decreases-indirect l = l.left

abbrev pub invariant-rows : goal.invariant-rows
invariant-rows l =
    AtRow (table_of l.geometry) (Sought l.offset l.at l.here) l.levels l.at l.end l.here l.size l.next

abbrev pub decreases-rows : goal.decreases-rows
decreases-rows l = l.end - l.here
