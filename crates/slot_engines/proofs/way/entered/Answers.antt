-- What is left of `entered`: a direct slot ends the way, and each level of the descent enters a block.
use Rattle.std.proofs.Common.{arith}
use Rattle.table.proofs.Locating.{deep_start}
use Rattle.slot_engines.proofs.Entering.{way_start, entered_above, entered_none, entered_here, entered_more}
use Rattle.slot_engines.proofs.Leading.{fixed-leads, fixed-seven}
use Rattle.slot_engines.proofs.way.entered.Goals as goal

pub returns-then-offset-ge-MAX_HEAP_SPACE : goal.returns-then-offset-ge-MAX_HEAP_SPACE
returns-then-offset-ge-MAX_HEAP_SPACE c =
    record { block = entered_above c.args.offset c.args.place (omega arith); leads = tt; seven_at_most = λ l. tt }

pub loop-at-init : goal.loop-at-init
loop-at-init c = way_start c.args.offset c.args.place (omega arith)

pub returns-then-is_direct : goal.returns-then-is_direct
returns-then-is_direct c =
    let block = entered_none c.loop-at.invariant c.table_slot-at.ensures.slot c.if-is_direct.ensures in
    record { block = block; leads = fixed-leads _ _ _ block; seven_at_most = λ l. fixed-seven _ _ l _ block }

pub returns-then-left-eq0 : goal.returns-then-left-eq0
returns-then-left-eq0 c =
    let block =
    entered_here c.loop-at.invariant c.table_slot-at.ensures.slot c.if-is_direct.ensures c.lookup.ensures.place
    (omega arith) in
    record { block = block; leads = fixed-leads _ _ _ block; seven_at_most = λ l. fixed-seven _ _ l _ block }

pub loop-at-smaller : goal.loop-at-smaller
loop-at-smaller c =
    let s = deep_start c.loop-at.past c.table_slot-at.ensures.slot (omega arith) c.if-is_direct.ensures in
    omega arith

pub loop-at-preserved : goal.loop-at-preserved
loop-at-preserved c =
    entered_more c.loop-at.invariant c.table_slot-at.ensures.slot c.if-is_direct.ensures (omega arith)
