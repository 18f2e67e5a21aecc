-- What is left of `locate`: a direct slot is the one to find, and each level of the descent leaves it the same.
use Rattle.std.proofs.Common.{arith}
use Rattle.table.proofs.Locating.{direct-slot, deep-slot, deep_start, loc_start, loc_direct, loc_deeper}
use Rattle.table.proofs.slot_places.locate.Goals as goal

pub loop-at-init : goal.loop-at-init
loop-at-init c = loc_start c.args.offset c.requires

pub returns-then-is_direct : goal.returns-then-is_direct
returns-then-is_direct c =
    let e = c.table_slot-at.ensures.slot in
    rw e (loc_direct c.loop-at.invariant (direct-slot _ e c.if-is_direct.ensures))

pub loop-at-smaller : goal.loop-at-smaller
loop-at-smaller c =
    let s = deep_start c.loop-at.past c.table_slot-at.ensures.slot (omega arith) c.if-is_direct.ensures in
    omega arith

pub loop-at-preserved : goal.loop-at-preserved
loop-at-preserved c =
    let e = c.table_slot-at.ensures.slot in
    rw e (loc_deeper c.loop-at.invariant (deep-slot _ e c.if-is_direct.ensures))
