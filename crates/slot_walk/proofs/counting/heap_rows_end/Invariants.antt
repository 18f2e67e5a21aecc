-- A row begins where the one before ends.
use Rattle.slot_walk.specs.Geometry.{table_of}
use Rattle.slot_walk.proofs.Tallying.{Ends}
use Rattle.slot_walk.proofs.counting.heap_rows_end.Given as goal

abbrev pub invariant-loop-row : goal.invariant-loop-row
invariant-loop-row l = Ends (table_of l.geometry) l.rows l.end l.size l.next l._row
