-- What is left of `capacity_sum`: the sum of some rows is at most that of all.
use Rattle.std.proofs.Common.{rules, arith}
use Rattle.table.proofs.Capacity.{adding-start, adding-le, adding-more}
use Rattle.table.proofs.capacities.capacity_sum.Goals as goal

pub loop-row-init : goal.loop-row-init
loop-row-init c = adding-start _ _ (search rules)

pub overflow_add-total : goal.overflow_add-total
overflow_add-total c =
    let more = adding-more c.loop-row.invariant c.loop-row-test.true c.requires.rows_of_root in
    omega (arith, adding-le more, c.requires.sum_in_heap)

pub loop-row-preserved : goal.loop-row-preserved
loop-row-preserved c = adding-more c.loop-row.invariant c.loop-row-test.true c.requires.rows_of_root
