-- One size more at the end of a list: the test of sizes, the run, and its heap offsets.
use Rattle.std.proofs.Common.{◌≡◌, ℕ, suc, ◌+◌, ◌<◌, ◌≤◌, List, [], ◌∷◌, ◌++◌, length, Some, None, Ok, Err, arith}
use Rattle.std.proofs.lemmas.Bool.Decides.{nat_tests}
use Rattle.refusals.specs.declared.FormatError.TheVariants.{ObjectTooLarge}
use Rattle.table.specs.Table.{Table}
use Rattle.planner.specs.declared.State.{State}
use Rattle.planner.specs.Steps.{step_of, run_from, offsets_from}
use Rattle.plan.specs.Checks.{sizes_checked}

-- ---- the test of sizes

module _ (limit x : ℕ) where
  pub passes-snoc : (xs : List ℕ) (i : ℕ) → sizes_checked limit i xs ≡ Ok tt → x ≤ limit
      → sizes_checked limit i (xs ++ (x ∷ [])) ≡ Ok tt
  unfolding sizes_checked
  passes-snoc [] i e l = grind (arith, nat_tests)
  passes-snoc (y ∷ ys) i e l = grind (arith, nat_tests, passes-snoc ys (suc i))

  -- n is its index
  pub too-large-snoc : (xs : List ℕ) (i n : ℕ) → n ≡ i + length xs → sizes_checked limit i xs ≡ Ok tt → limit < x
      → sizes_checked limit i (xs ++ (x ∷ [])) ≡ Err (ObjectTooLarge n x)
  unfolding sizes_checked
  too-large-snoc [] i n c e l = grind (arith, nat_tests)
  too-large-snoc (y ∷ ys) i n c e l = grind (arith, nat_tests, too-large-snoc ys (suc i) n (omega arith))

-- ---- the run

module _ (t : Table) (w x : ℕ) where
  -- the object is placed
  pub offsets-snoc : (xs : List ℕ) (s s₁ s₂ : State) (i o : ℕ) → run_from t w s xs i ≡ Ok s₁
      → step_of t w s₁ x ≡ Some (s₂, o)
      → offsets_from t w s (xs ++ (x ∷ [])) ≡ offsets_from t w s xs ++ (o ∷ [])
  unfolding run_from offsets_from
  offsets-snoc [] s s₁ s₂ i o e f = grind arith
  offsets-snoc (y ∷ ys) s s₁ s₂ i o e f = grind (arith, λ (s' : State). offsets-snoc ys s' s₁ s₂ (suc i) o)

  -- the heap space ends there
  pub run-ends : (xs : List ℕ) (s s₁ : State) (i n : ℕ) → n ≡ i + length xs → run_from t w s xs i ≡ Ok s₁
      → step_of t w s₁ x ≡ None → run_from t w s (xs ++ (x ∷ [])) i ≡ Err n
  unfolding run_from
  run-ends [] s s₁ i n c e f = grind arith
  run-ends (y ∷ ys) s s₁ i n c e f = grind (arith, λ (s' : State). run-ends ys s' s₁ (suc i) n (omega arith))
