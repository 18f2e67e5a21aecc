-- What is left of `entered_blocks`: a direct slot adds nothing, and each level of the descent adds its own block.
use Rattle.std.proofs.Common.{arith}
use Rattle.table.proofs.Locating.{direct-slot, deep-slot, deep_start, entered-small}
use Rattle.table.proofs.Locating.{entering-start, entering-done, entering-more}
use Rattle.table.proofs.slot_places.entered_blocks.Goals as goal

pub loop-at-init : goal.loop-at-init
loop-at-init c = entering-start c.args.offset_size c.args.end c.args.start c.requires

pub returns-then-is_direct : goal.returns-then-is_direct
returns-then-is_direct c =
    entering-done c.loop-at.invariant (direct-slot _ c.table_slot-at.ensures.slot c.if-is_direct.ensures)

pub overflow_add-total : goal.overflow_add-total
overflow_add-total c =
    let e = c.table_slot-at.ensures.slot in
    let deep = deep-slot _ e c.if-is_direct.ensures in
    let more = entering-more c.loop-at.invariant deep _ (rw e at c.entered_here-total.ensures) in
    omega (arith, more.rest, entered-small c.args.offset_size c.args.end c.args.start (omega arith))

pub loop-at-smaller : goal.loop-at-smaller
loop-at-smaller c =
    let s = deep_start c.loop-at.local c.table_slot-at.ensures.slot (omega arith) c.if-is_direct.ensures in
    omega arith

pub loop-at-preserved : goal.loop-at-preserved
loop-at-preserved c =
    let e = c.table_slot-at.ensures.slot in
    let deep = deep-slot _ e c.if-is_direct.ensures in
    rw e (entering-more c.loop-at.invariant deep _ (rw e at c.entered_here-total.ensures))
