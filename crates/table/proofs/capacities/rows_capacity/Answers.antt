-- What is left of `rows_capacity`: the sums are small, and each row is filled from those before it.
use Rattle.std.proofs.Common.{arith}
use Rattle.table.proofs.Capacity.{filling-start, filling-small, filling-more}
use Rattle.table.proofs.capacities.rows_capacity.Goals as goal

pub loop-row-init : goal.loop-row-init
loop-row-init c = (c.direct_block_header-header.ensures, filling-start c.direct_block_header-header.result)

pub block_capacity-requires-clause-below_in_heap : goal.block_capacity-requires-clause-below_in_heap
block_capacity-requires-clause-below_in_heap c = omega (arith, filling-small c.loop-row.invariant.1)

pub overflow_add-below : goal.overflow_add-below
overflow_add-below c =
    let more = filling-more c.loop-row.invariant.1 c.loop-row-test.true _ c.block_capacity.ensures in
    omega (arith, filling-small more)

pub loop-row-preserved : goal.loop-row-preserved
loop-row-preserved c = (
  c.loop-row.invariant.0,
  filling-more c.loop-row.invariant.1 c.loop-row-test.true _ c.block_capacity.ensures,
)
