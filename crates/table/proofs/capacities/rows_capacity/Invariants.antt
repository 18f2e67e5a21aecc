-- The rows before `row` are filled, and `below` is what the rows that fill a slot of row `row` hold.
use Rattle.std.proofs.Common.{◌≡◌}
use Rattle.table.specs.Table.{fixed}
use Rattle.table.specs.Sizes.{direct_header}
use Rattle.table.proofs.Capacity.{Filling}
use Rattle.table.proofs.capacities.rows_capacity.Given as goal

abbrev pub invariant-loop-row : goal.invariant-loop-row
invariant-loop-row l = (l.header ≡ direct_header fixed l.offset_size) × Filling l.header l.per_block l.below l.row
