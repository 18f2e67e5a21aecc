-- Additions to an open plan, one by one: rules, Planning, of a list that grows.
use Rattle.std.specs.Prelude.{ℕ, ◌+◌, ◌≡◌, ◌≤◌, ◌<◌, max, true, nat_le, nat_lt, List, [], ◌∷◌}
use Rattle.std.specs.Prelude.{◌++◌, length, Option, Some, None, Result, Ok, Err}
use Rattle.fields.specs.Widths.{legal}
use Rattle.refusals.specs.Steps.{◌>>=◌, required}
use Rattle.refusals.specs.declared.FormatError.{FormatError}
use Rattle.refusals.specs.declared.FormatError.TheVariants.{ObjectTooLarge, HeapSpaceExhausted}
use Rattle.table.specs.Table.{fixed}
use Rattle.table.specs.Sizes.{max_managed}
use Rattle.planner.specs.declared.State.{State}
use Rattle.planner.specs.Steps.{initial, step_of, plan_offsets}
use Rattle.plan.specs.declared.ManagedPlan.{ManagedPlan}
use Rattle.plan.specs.End.{end_state}
use Rattle.plan.specs.Answer.{totals, planned_for}
use Rattle.open_plan.specs.Open.{IsPlanOf, most_objects}

-- the step of planning, or 12 where the heap space ends at this object
abbrev pub placed_at : (index : ℕ) (step : Option (State × ℕ)) → Result (State × ℕ) FormatError
placed_at index (Some placed) = Ok placed
placed_at index None = Err (HeapSpaceExhausted index)

-- one object more after so many: the state then and its heap offset, or 11, or 12
abbrev pub addition : (offset_size : ℕ) (state : State) (objects size : ℕ)
    → Result (State × ℕ) FormatError
addition offset_size state objects size = do
  _ ← required (nat_le size (max_managed fixed offset_size)) (ObjectTooLarge objects size)
  _ ← required (nat_lt objects most_objects) (HeapSpaceExhausted objects)
  placed_at objects (step_of fixed offset_size state size)

-- of the sizes that are asked for one after another those that are accepted
unfoldable pub accepted_sizes : (offset_size : ℕ)
    (state : State) (objects : ℕ) (sizes : List ℕ) → List ℕ
accepted_sizes offset_size state objects [] = []
accepted_sizes offset_size state objects (size ∷ sizes) =
    elim (addition offset_size state objects size) [
      | Ok (state', offset) ↦ size ∷ accepted_sizes offset_size state' (objects + 1) sizes
      | Err refusal ↦ accepted_sizes offset_size state objects sizes
    ]

-- the heap offsets that they are given
unfoldable pub given_offsets : (offset_size : ℕ)
    (state : State) (objects : ℕ) (sizes : List ℕ) → List ℕ
given_offsets offset_size state objects [] = []
given_offsets offset_size state objects (size ∷ sizes) =
    elim (addition offset_size state objects size) [
      | Ok (state', offset) ↦ offset ∷ given_offsets offset_size state' (objects + 1) sizes
      | Err refusal ↦ given_offsets offset_size state objects sizes
    ]

-- the state after them
unfoldable pub state_after : (offset_size : ℕ)
    (state : State) (objects : ℕ) (sizes : List ℕ) → State
state_after offset_size state objects [] = state
state_after offset_size state objects (size ∷ sizes) =
    elim (addition offset_size state objects size) [
      | Ok (state', offset) ↦ state_after offset_size state' (objects + 1) sizes
      | Err refusal ↦ state_after offset_size state objects sizes
    ]

-- what an addition leaves: the plan's totals, all eight, or its refusal
abbrev pub plan_then : (offset_size : ℕ) (added : Result (State × ℕ) FormatError)
    → Result ManagedPlan FormatError
plan_then offset_size (Ok (state, offset)) =
    Ok (totals fixed offset_size (end_state fixed offset_size state))
plan_then offset_size (Err refusal) = Err refusal

-- a size that is asked for behind the accepted ones, and its answer. While objects can be counted
-- on it is that of planning them and this one in one list, in lists that 13 lets pass: accepted
-- with the same totals, or refused by 11 or 12 with the same pair. Behind the most objects it is
-- refused: by 11, else by 12
pub record NextAsPlanned (offset_size : ℕ) (accepted : List ℕ) (size : ℕ)
    (answer : Result (State × ℕ) FormatError) : Type 0 where
  pub as_planned : legal offset_size ≡ true → length accepted < most_objects
      → (offset_places block_places : ℕ)
      → length accepted < offset_places → length accepted < block_places
      → planned_for (accepted ++ size ∷ []) offset_places block_places offset_size
      ≡ plan_then offset_size answer
  pub full : length accepted ≡ most_objects → size ≤ max_managed fixed offset_size
      → answer ≡ Err (HeapSpaceExhausted most_objects)
  pub full_too_large : length accepted ≡ most_objects → max_managed fixed offset_size < size
      → answer ≡ Err (ObjectTooLarge most_objects size)

-- sizes asked for one after another, from the plan of no objects on: state, heap offsets and all
-- totals are those of planning the accepted ones in one list, and each of them, accepted or
-- refused, was answered as planning answers it behind the accepted ones among those before it
pub record IsPlanned (offset_size : ℕ) (asked : List ℕ) : Type 0 where
  pub accepted : List ℕ
  pub are_accepted : accepted ≡ accepted_sizes offset_size (initial fixed offset_size) 0 asked
  pub are_counted : length accepted ≤ most_objects
  pub is_plan :
      IsPlanOf offset_size (state_after offset_size (initial fixed offset_size) 0 asked)
      (length accepted) accepted
  pub offsets_are :
      given_offsets offset_size (initial fixed offset_size) 0 asked
      ≡ plan_offsets fixed offset_size accepted
  pub totals_are : legal offset_size ≡ true → (offset_places block_places : ℕ)
      → length accepted ≤ offset_places → max 1 (length accepted) ≤ block_places
      → planned_for accepted offset_places block_places offset_size
      ≡ Ok (totals fixed offset_size
      (end_state fixed offset_size (state_after offset_size (initial fixed offset_size) 0 asked)))
  pub each : (before : List ℕ) (size : ℕ) (after : List ℕ) → asked ≡ before ++ size ∷ after
      → NextAsPlanned offset_size
      (accepted_sizes offset_size (initial fixed offset_size) 0 before) size
      (addition offset_size (state_after offset_size (initial fixed offset_size) 0 before)
      (length (accepted_sizes offset_size (initial fixed offset_size) 0 before)) size)

abbrev pub AdditionsPlanned : Type 0
AdditionsPlanned = (offset_size : ℕ) (asked : List ℕ) → IsPlanned offset_size asked
