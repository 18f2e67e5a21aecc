-- The objects that fit into the current block, one after another, as the loops take them.
use Rattle.std.specs.Prelude.{ℕ, ◌+◌, true, false, nat_le, List, [], ◌∷◌}
use Rattle.planner.specs.Steps.{filled}
use Rattle.planner.specs.declared.State.{State}

-- the state after them
unfoldable pub fill_state : (state : State) (sizes : List ℕ) → State
fill_state state [] = state
fill_state state (size ∷ sizes) =
    elim (nat_le (state.fill + size) state.size)
    [ true ↦ fill_state (filled state size) sizes | false ↦ state ]

-- their heap offsets
unfoldable pub fill_offsets : (state : State) (sizes : List ℕ) → List ℕ
fill_offsets state [] = []
fill_offsets state (size ∷ sizes) =
    elim (nat_le (state.fill + size) state.size) [
      | true ↦ (state.start + state.fill) ∷ fill_offsets (filled state size) sizes
      | false ↦ []
    ]
