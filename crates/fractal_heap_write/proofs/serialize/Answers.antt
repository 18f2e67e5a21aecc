-- What is left of `serialize`: the plan and its region fit into what is lent, and the bytes behind the region stay.
use Rattle.std.proofs.Common.{arith, sym}
use Rattle.std.proofs.Math.Seq.{length-take-le}
use Rattle.plan.proofs.Kept.{plan-kept, root-fits}
use Rattle.plan.proofs.Tally.{tallied}
use Rattle.fractal_heap_write.proofs.Serializing.{sizes-small, offsets_fit, blocks_fit, count_fits, space_within}
use Rattle.fractal_heap_write.proofs.Serializing.{writable, behind-kept}
use Rattle.fractal_heap_write.proofs.serialize.Goals as goal

pub write_lists-requires-clause-small : goal.write_lists-requires-clause-small
write_lists-requires-clause-small c = sizes-small c.in_ok-plan.ensures.accepted

pub write_lists-requires-clause-offsets_room : goal.write_lists-requires-clause-offsets_room
write_lists-requires-clause-offsets_room c = offsets_fit c.in_ok-plan.ensures.accepted

pub write_lists-requires-clause-blocks_room : goal.write_lists-requires-clause-blocks_room
write_lists-requires-clause-blocks_room c = blocks_fit c.in_ok-plan.ensures.accepted

pub slice_bounds-write_region-end : goal.slice_bounds-write_region-end
slice_bounds-write_region-end c = count_fits c.in_ok-plan.ensures.accepted _ _ c.write_lists.ensures.blocks_after

pub slice_bounds-write_region-end-2 : goal.slice_bounds-write_region-end-2
slice_bounds-write_region-end-2 c =
    sym (length-take-le _ _ (count_fits c.in_ok-plan.ensures.accepted _ _ c.write_lists.ensures.blocks_after))

pub overflow_sub-plan : goal.overflow_sub-plan
overflow_sub-plan c = space_within c.in_ok-plan.ensures.accepted

pub write_region-requires : goal.write_region-requires
write_region-requires c =
    writable c.in_ok-plan.ensures.accepted _ _ _ _ (omega arith) (omega arith) c.write_lists.ensures.blocks_after

pub returns-clause-written : goal.returns-clause-written
returns-clause-written c = behind-kept c.in_ok-plan.ensures.accepted _ _ _ c.write_region.ensures

pub returns-clause-kept : goal.returns-clause-kept
returns-clause-kept c = plan-kept _ _ _ _ _ c.in_ok-plan.ensures.accepted.planned

pub returns-clause-root : goal.returns-clause-root
returns-clause-root c = root-fits _ _ _ _ _ c.in_ok-plan.ensures.accepted.planned

pub returns-clause-tallied : goal.returns-clause-tallied
returns-clause-tallied c = tallied _ _ _ _ _ c.in_ok-plan.ensures.accepted.planned
