-- The planner's answer, case by case: the tests before planning, and the run after them.
use Rattle.std.proofs.Common.{arith, ◌≡◌, ℕ, List, Ok, Err, Result, refl}
use Rattle.refusals.specs.declared.FormatError.TheVariants.{HeapSpaceExhausted}
use Rattle.table.specs.Table.{fixed}
use Rattle.planner.specs.declared.State.{State}
use Rattle.planner.specs.Steps.{run}
use Rattle.plan.specs.Checks.{input_checked}
use Rattle.plan.proofs.Checking.{Passing, passing, tests-other}
use Rattle.plan.specs.declared.ManagedPlan.{ManagedPlan}
use Rattle.plan.specs.End.{end_state}
use Rattle.plan.specs.Answer.{totals, ran_plan, planned_for}

-- planning goes through, and gives p
pub record Went (w : ℕ) (xs : List ℕ) (p : ManagedPlan) : Type 0 where
  pub state : State
  pub ran : run fixed w xs ≡ Ok state
  pub totals_is : p ≡ totals fixed w (end_state fixed w state)

module _ (xs : List ℕ) (o b w : ℕ) where
  -- an accepted list passed the tests, and planning went through
  pub accepted : (p : ManagedPlan) → planned_for xs o b w ≡ Ok p → Passing xs o b w × Went w xs p
  unfolding planned_for
  accepted p e = (passing xs o b w (grind arith), go (run fixed w xs) refl)
    where
      go : (r : Result State ℕ) → run fixed w xs ≡ r → Went w xs p
      go (Ok s) q = record { state = s; ran = q; totals_is = grind arith }
      go (Err i) q = absurd (grind arith)

  -- and back, with the answer of each run
  pub answers : (r : Result State ℕ) → input_checked xs o b w ≡ Ok tt → run fixed w xs ≡ r
      → planned_for xs o b w ≡ ran_plan w r
  unfolding planned_for
  answers r e f = rw (e, f) refl

  -- the heap space ends where the tests pass and the run is short
  pub ended : (i : ℕ) → planned_for xs o b w ≡ Err (HeapSpaceExhausted i)
      → (input_checked xs o b w ≡ Ok tt) × (run fixed w xs ≡ Err i)
  unfolding planned_for
  ended i e = grind (arith, tests-other xs o b w i)
