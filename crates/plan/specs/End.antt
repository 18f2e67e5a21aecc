-- The end of a plan: the state after the last object, and the root's rows (HDF5 File Format
-- Specification 3.0, III.G, 'Fractal Heap Header': Current # of Rows in Root Indirect Block). That
-- they are the fewest is our rule.
use Rattle.std.specs.Prelude.{ℕ, ◌==◌, if◌then◌else◌, unwrap_or}
use Rattle.table.specs.Table.{Table, starting_size, covering}
use Rattle.table.specs.Sizes.{direct_header}
use Rattle.planner.specs.declared.State.{State}

-- without objects there is one block of the starting size, at 0
abbrev pub one_block : (table : Table) (offset_size : ℕ) → State
one_block table offset_size = record {
  start = 0;
  size = starting_size table;
  fill = direct_header table offset_size;
  count = 1;
  allocated = starting_size table;
  used = 0;
  indirect = 0;
}

-- the state after a run, or that one
abbrev pub end_state : (table : Table) (offset_size : ℕ) (state : State) → State
end_state table offset_size state = if state.count == 0 then one_block table offset_size else state

-- the fewest rows that reach the last block's end; none where that block is the one of the starting
-- size at 0
abbrev pub rows_of_root : (table : Table) (end : ℕ) → ℕ
rows_of_root table end = if end == starting_size table then 0 else unwrap_or (covering table end) 0
