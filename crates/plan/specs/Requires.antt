-- What the totals ask of a state, so that none falls below zero or leaves 64 bits.
use Rattle.std.specs.Prelude.{ℕ, ◌+◌, ◌≤◌, ◌<◌, ◌≡◌}
use Rattle.table.specs.Table.{fixed, starting_size}
use Rattle.table.specs.Sizes.{direct_header}
use Rattle.table.specs.Capacity.{capacity}
use Rattle.planner.specs.declared.State.{State}
use Rattle.planner.specs.Steps.{block_end}
use Rattle.planner.specs.Requires.{Bounded}
use Rattle.plan.specs.End.{rows_of_root}

-- a state after the last object: some block is placed, and the objects lie in the root's slots
pub record Totalled (offset_size : ℕ) (state : State) : Type 0 where
  pub block_placed : 0 < block_end state
  pub bounded : Bounded state
  pub fits_one_block : block_end state ≡ starting_size fixed
      → direct_header fixed offset_size + state.used ≤ starting_size fixed
  pub fits_rows : (block_end state ≡ starting_size fixed → ⊥)
      → state.used
      ≤ capacity fixed (direct_header fixed offset_size) (rows_of_root fixed (block_end state))
