-- The levels fall: a block that is opened has one fewer, so no more are open at once than the count is given. What is
-- counted and what is left of the list of slots give the whole.
use Rattle.std.proofs.Common.{◌-◌}
use Rattle.slot_walk.specs.Geometry.{table_of}
use Rattle.slot_walk.proofs.Tallying.{Rows, Cols, with-slots}
use Rattle.slot_walk.proofs.counting.+count_block.Given as goal

abbrev pub decreases-count_block : goal.decreases-count_block
decreases-count_block l = l.levels

abbrev pub invariant-indirect : goal.invariant-indirect
invariant-indirect l =
    Cols (table_of l.geometry) l.initial.counts l.counts l.levels l.at l.end l.initial.here l.here l.size l.next l.left

abbrev pub decreases-indirect : goal.decreases-indirect
decreases-indirect l = l.left

abbrev pub invariant-direct : goal.invariant-direct
invariant-direct l =
    Cols (table_of l.geometry) l.counts (with-slots l.counts l.place l.slots) l.levels l.at l.end l.initial.here l.here
    l.size l.next l.left

abbrev pub decreases-direct : goal.decreases-direct
decreases-direct l = l.left

abbrev pub invariant-rows : goal.invariant-rows
invariant-rows l =
    Rows (table_of l.geometry) l.fn.counts l.counts l.levels l.at l.end l.here l.size l.next l.place l.next_place

abbrev pub decreases-rows : goal.decreases-rows
decreases-rows l = l.end - l.here
