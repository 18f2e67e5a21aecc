-- The sum is that of the rows before `row`.
use Rattle.table.proofs.Capacity.{Adding}
use Rattle.table.proofs.capacities.capacity_sum.Given as goal

abbrev pub invariant-loop-row : goal.invariant-loop-row
invariant-loop-row l = Adding l.per_block l.nrows l.total l.row
