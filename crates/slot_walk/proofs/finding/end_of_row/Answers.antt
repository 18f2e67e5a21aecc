-- What is left of `end_of_row`: each size that is added leaves one fewer.
use Rattle.std.proofs.Common.{refl, arith}
use Rattle.slot_walk.proofs.Searching.{left_fits, left_passed, left_over}
use Rattle.slot_walk.proofs.finding.end_of_row.Goals as goal

pub loop-left-init : goal.loop-left-init
loop-left-init c = record { ends = refl }

pub overflow_add-end : goal.overflow_add-end
overflow_add-end c = omega (arith, left_fits c.loop-left.invariant c.loop-left-test.true, c.requires)

pub loop-left-preserved : goal.loop-left-preserved
loop-left-preserved c = left_passed c.loop-left.invariant c.loop-left-test.true

pub returns : goal.returns
returns c = left_over c.loop-left.invariant (omega arith)
