-- What an open plan is the plan of, and what one object more does to it.
use Rattle.std.specs.Prelude.{ℕ, ◌-◌, ◌^◌, ◌<◌, ◌≡◌, List, [], ◌∷◌, ◌++◌, length, slice_index, Ok}
use Rattle.std.specs.Prelude.{Err}
use Rattle.refusals.specs.declared.FormatError.{FormatError}
use Rattle.table.specs.Table.{fixed}
use Rattle.table.specs.Sizes.{max_managed}
use Rattle.planner.specs.declared.State.{State}
use Rattle.planner.specs.Steps.{run, plan_offsets}
use Rattle.plan.specs.declared.ManagedPlan.{ManagedPlan}
use Rattle.plan.specs.Checks.{sizes_checked}
use Rattle.plan.specs.Answer.{planned_for}

-- as many objects as a 64-bit number counts
abbrev pub most_objects : ℕ
most_objects = 2 ^ 64 - 1

-- the state after so many objects is that of planning these sizes, which 11 lets pass, in one list
pub record IsPlanOf (offset_size : ℕ) (state : State) (objects : ℕ) (sizes : List ℕ) : Type 0 where
  pub objects_counted : objects ≡ length sizes
  pub sizes_pass : sizes_checked (max_managed fixed offset_size) 0 sizes ≡ Ok tt
  pub state_planned : run fixed offset_size sizes ≡ Ok state

-- the state is that of the sizes and one more; the heap offsets are those of before and this one,
-- which the object has in every longer list, too
pub record Extends (offset_size : ℕ) (state : State) (objects : ℕ)
    (sizes : List ℕ) (size offset : ℕ) : Type 0 where
  pub is_plan : IsPlanOf offset_size state objects (sizes ++ size ∷ [])
  pub offsets_are :
      plan_offsets fixed offset_size (sizes ++ size ∷ [])
      ≡ plan_offsets fixed offset_size sizes ++ offset ∷ []
  pub offset_stays : (later : List ℕ) (offset_places block_places : ℕ) (plan : ManagedPlan)
      → planned_for (sizes ++ size ∷ later) offset_places block_places offset_size ≡ Ok plan
      → slice_index (plan_offsets fixed offset_size (sizes ++ size ∷ later)) (length sizes) ≡ offset

-- planning the sizes and this one in one list, in lists that 13 lets pass, is refused so, too; a
-- plan that holds the most objects refuses by itself
abbrev pub RefusedAsPlanned : (offset_size : ℕ) (sizes : List ℕ) (size : ℕ)
    → (refusal : FormatError) → Type 0
RefusedAsPlanned offset_size sizes size refusal =
    length sizes < most_objects → (offset_places block_places : ℕ)
    → length sizes < offset_places → length sizes < block_places
    → planned_for (sizes ++ size ∷ []) offset_places block_places offset_size ≡ Err refusal
