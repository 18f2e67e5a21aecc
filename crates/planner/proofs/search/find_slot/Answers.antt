-- What is left of `find_slot`: from a slot that is too small, the next multiple of the span loses no slot that fits.
use Rattle.std.proofs.Common.{◌∙◌, sym, arith}
use Rattle.table.specs.Table.{fixed}
use Rattle.table.proofs.Slots.{slot-some, end-le}
use Rattle.planner.proofs.Opening.{open-here, open_full}
use Rattle.planner.proofs.Jumping.{jumped}
use Rattle.planner.proofs.search.find_slot.Goals as goal

pub returns-then-need-slot-clause-first_large_enough : goal.returns-then-need-slot-clause-first_large_enough
returns-then-need-slot-clause-first_large_enough c = grind (arith, open-here fixed c.args.need c.loop-from.from)

pub returns-then-need-slot-clause-in_heap : goal.returns-then-need-slot-clause-in_heap
returns-then-need-slot-clause-in_heap c =
    grind (arith, slot-some fixed c.loop-from.from, end-le fixed c.loop-from.from (omega arith) (omega arith))

pub loop-from-preserved : goal.loop-from-preserved
loop-from-preserved c =
    let span = c.next_power_of_two-span.ensures in
    let j = jumped span.power span.upper_bound c.requires.need_in_block c.locate-slot.ensures c.loop-from-test.true
    c.if-need-slot.false in
    record { in_heap = j.within; same = c.loop-from.invariant.same ∙ j.same }

pub returns-clause-first_large_enough : goal.returns-clause-first_large_enough
returns-clause-first_large_enough c = sym (c.loop-from.invariant.same ∙ open_full fixed _ _ c.loop-from-test.false)
