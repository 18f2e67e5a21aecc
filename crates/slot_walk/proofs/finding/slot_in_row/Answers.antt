-- What is left of `slot_in_row`: the slot at hand is the one, or is passed.
use Rattle.std.proofs.Common.{refl, arith}
use Rattle.slot_walk.proofs.Searching.{left_fits, row_slot_found, row_slot_passed, row_without}
use Rattle.slot_walk.proofs.finding.slot_in_row.Goals as goal

pub loop-left-init : goal.loop-left-init
loop-left-init c = record { slots = record { ends = refl }; same = refl }

pub overflow_add-start : goal.overflow_add-start
overflow_add-start c = omega (arith, left_fits c.loop-left.invariant.slots c.loop-left-test.true, c.requires)

pub overflow_add-start-in-loop-left : goal.overflow_add-start-in-loop-left
overflow_add-start-in-loop-left c =
    omega (arith, left_fits c.loop-left.invariant.slots c.loop-left-test.true, c.requires)

pub returns-then-offset-start : goal.returns-then-offset-start
returns-then-offset-start c = row_slot_found c.loop-left.invariant c.loop-left-test.true c.if-offset-start.true

pub loop-left-preserved : goal.loop-left-preserved
loop-left-preserved c = row_slot_passed c.loop-left.invariant c.loop-left-test.true c.if-offset-start.false

pub returns : goal.returns
returns c = row_without c.loop-left.invariant (omega arith)
