-- The states after the objects of some list: one object more reaches the next state, and each of them is within bounds.
use Rattle.std.proofs.Common.{◌≡◌, ℕ, suc, ◌+◌, ◌≤◌, List, [], ◌∷◌, ◌++◌, Some, Ok, refl, sym, subst, inl, inr, arith}
use Rattle.std.proofs.Math.Logic.{∥∥₁_elim, ∥∥₁_map}
use Rattle.std.proofs.Props.{props}
use Rattle.std.proofs.lemmas.Bool.{cases_lt}
use Rattle.table.specs.Table.{Table, fixed}
use Rattle.planner.specs.Steps.{initial, filled, step_of, run_from}
use Rattle.planner.specs.Filling.{fill_state}
use Rattle.planner.specs.Requires.{Bounded, IsReached}
use Rattle.planner.specs.declared.State.{State}
use Rattle.planner.proofs.Stepping.{step_same}
use Rattle.planner.proofs.FillingBlocks.{state-fits, state-full}
use Rattle.planner.proofs.Running.{Sound, sound-initial, sound-bounded, sound-step}

-- one object more at the end
pub run-snoc : (t : Table) (w : ℕ) (xs : List ℕ) (s s₁ s₂ : State) (i x o : ℕ) → run_from t w s xs i ≡ Ok s₁
    → step_of t w s₁ x ≡ Some (s₂, o) → run_from t w s (xs ++ (x ∷ [])) i ≡ Ok s₂
unfolding run_from
run-snoc t w [] s s₁ s₂ i x o e f = grind arith
run-snoc t w (y ∷ ys) s s₁ s₂ i x o e f = grind (arith, λ (s' : State). run-snoc t w ys s' s₁ s₂ (suc i) x o)

run-sound : (w : ℕ) → w ≤ 255 → (xs : List ℕ) (s : State) (i : ℕ) (s' : State) → Sound w s
    → run_from fixed w s xs i ≡ Ok s' → Sound w s'
unfolding run_from
run-sound w l [] s i s' S e = grind arith
run-sound w l (x ∷ xs) s i s' S e =
    grind (
      arith,
      λ (p : State × ℕ) (q : step_of fixed w s x ≡ Some p).
          run-sound w l xs p.0 (suc i) s' (sound-step w s x p.0 p.1 l S q),
    )

-- before the first object
pub reached-initial : (w : ℕ) → IsReached w (initial fixed w)
unfolding run_from
reached-initial w = ∣ ([], refl) ∣₁

bounded-prop : (s : State) → IsProp (Bounded s)
bounded-prop s = hlevel props

module _ (w : ℕ) (s : State) (R : IsReached w s) where
  -- all sums stay within 64 bits
  pub reached-bounded : w ≤ 255 → Bounded s
  reached-bounded l =
      ∥∥₁_elim R (bounded-prop s)
      (λ p. sound-bounded w s l (run-sound w l p.0 (initial fixed w) 0 s (sound-initial w) p.1))

  -- one object more
  pub reached-step : (x : ℕ) (s' : State) (o : ℕ) → step_of fixed w s x ≡ Some (s', o) → IsReached w s'
  reached-step x s' o e =
      ∥∥₁_map R (λ p. (p.0 ++ (x ∷ []), run-snoc fixed w p.0 (initial fixed w) s s' 0 x o p.1 e))

-- the objects that fit into the current block
pub reached-fill : (w : ℕ) (xs : List ℕ) (s : State) → IsReached w s → IsReached w (fill_state s xs)
unfolding fill_state
reached-fill w [] s R = R
reached-fill w (x ∷ xs) s R =
    elim (cases_lt s.size (s.fill + x)) [
      | inl l ↦ subst (IsReached w) (sym (state-full s x xs l)) R
      | inr l ↦ subst (IsReached w) (sym (state-fits s x xs l))
          (reached-fill w xs (filled s x) (reached-step w s R x _ _ (step_same fixed w s x l)))
    ]
