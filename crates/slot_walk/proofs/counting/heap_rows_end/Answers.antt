-- What is left of `heap_rows_end`: each row ends in the heap, or is one too many.
use Rattle.std.proofs.Common.{arith}
use Rattle.slot_walk.proofs.Numbers.{in_words}
use Rattle.slot_walk.proofs.Tallying.{ends_start, row-small, next-small, rows-over, ends_more, ends-done}
use Rattle.slot_walk.proofs.counting.heap_rows_end.Goals as goal

pub loop-row-init : goal.loop-row-init
loop-row-init c = ends_start (omega arith) c.requires.start

pub overflow_mul-end : goal.overflow_mul-end
overflow_mul-end c =
    omega (arith, row-small c.requires.table c.requires.width c.loop-row.invariant, in_words c.requires)

pub overflow_add-end : goal.overflow_add-end
overflow_add-end c =
    omega (arith, row-small c.requires.table c.requires.width c.loop-row.invariant, in_words c.requires)

pub returns-then-end-heap_end : goal.returns-then-end-heap_end
returns-then-end-heap_end c =
    rows-over c.requires.table c.requires.width c.loop-row.invariant (omega arith)
    (omega (arith, c.heap_end-heap_end.ensures))

pub overflow_add-next : goal.overflow_add-next
overflow_add-next c =
    omega (arith, next-small c.requires.table c.requires.width c.loop-row.invariant, in_words c.requires)

pub loop-row-preserved : goal.loop-row-preserved
loop-row-preserved c =
    ends_more c.requires.table c.requires.width c.loop-row.invariant (omega (arith, c.heap_end-heap_end.ensures))

pub returns : goal.returns
returns c = ends-done c.loop-row.invariant (omega arith)
