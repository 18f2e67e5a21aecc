-- A front part of an accepted list is accepted, with the same offsets and, as far as they go, the same blocks.
use Rattle.std.proofs.Common.{◌≡◌, ℕ, zero, suc, ◌<◌, ◌≤◌, max, List, [], ◌∷◌, ◌++◌, length, take, Some, None, Ok}
use Rattle.std.proofs.Common.{Option, sym, refl, ◌∙◌, arith, length-take}
use Rattle.std.proofs.lemmas.Bool.Decides.{nat_tests}
use Rattle.table.specs.Table.{Table, fixed}
use Rattle.planner.specs.declared.State.{State}
use Rattle.plan.specs.declared.ManagedPlan.{ManagedPlan}
use Rattle.planner.specs.Steps.{initial, step_of, run_from, offsets_from, starts_from, plan_starts}
use Rattle.plan.specs.End.{end_state}
use Rattle.plan.specs.Answer.{totals, planned_for}
use Rattle.plan.specs.Checks.{sizes_checked}
use Rattle.planner.proofs.Running.{run-stops, run-goes, offsets-go}
use Rattle.plan.specs.Plans.{FrontPart}
use Rattle.plan.proofs.Checking.{passed}
use Rattle.plan.proofs.Answering.{accepted, answers}

-- the first k sizes from the state s on
pub record Fronted (t : Table) (w : ℕ) (s : State) (xs : List ℕ) (k i : ℕ) : Type 0 where
  pub state : State
  pub is : run_from t w s (take k xs) i ≡ Ok state
  pub same_offsets : offsets_from t w s (take k xs) ≡ take k (offsets_from t w s xs)
  pub later : List ℕ
  pub same_starts : starts_from t w s xs ≡ starts_from t w s (take k xs) ++ later

-- a run that ends well has run its front part well
pub front : (t : Table) (w : ℕ) (xs : List ℕ) (k : ℕ) (s : State) (i : ℕ) (s' : State) → run_from t w s xs i ≡ Ok s'
    → Fronted t w s xs k i
unfolding run_from offsets_from starts_from
front t w xs zero s i s' e =
    record { state = s; is = refl; same_offsets = refl; later = starts_from t w s xs; same_starts = refl }
front t w [] (suc k) s i s' e = record { state = s; is = refl; same_offsets = refl; later = []; same_starts = refl }
front t w (x ∷ xs) (suc k) s i s' e = go (step_of t w s x) refl (λ s₁. front t w xs k s₁ (suc i) s')
  where
    go : (v : Option (State × ℕ)) → step_of t w s x ≡ v
        → ((s₁ : State) → run_from t w s₁ xs (suc i) ≡ Ok s' → Fronted t w s₁ xs k (suc i))
        → Fronted t w s (x ∷ xs) (suc k) i
    go (Some (s₁, o)) q ih =
        let F = ih s₁ (sym (run-goes t w s x xs s₁ o q i) ∙ e) in
        record {
          state = F.state;
          is = run-goes t w s x (take k xs) s₁ o q i ∙ F.is;
          same_offsets = grind (
            arith,
            offsets-go t w s x (take k xs) s₁ o q,
            offsets-go t w s x xs s₁ o q,
            F.same_offsets,
          );
          later = F.later;
          same_starts = grind (arith, nat_tests, F.same_starts);
        }
    go None q ih = absurd (let f = run-stops t w s x xs i q in cc)

-- the sizes of a front part pass
sizes-front : (limit j : ℕ) (xs : List ℕ) (k : ℕ) → sizes_checked limit j xs ≡ Ok tt
    → sizes_checked limit j (take k xs) ≡ Ok tt
unfolding sizes_checked
sizes-front limit j xs zero e = refl
sizes-front limit j [] (suc k) e = refl
sizes-front limit j (x ∷ xs) (suc k) e = grind (arith, nat_tests, sizes-front limit (suc j) xs k)

-- the blocks of the whole list, where the front part has some size
blocks-front : (w : ℕ) (xs : List ℕ) (k : ℕ) (F : Fronted fixed w (initial fixed w) xs k 0) → 0 < k
    → plan_starts fixed w xs ≡ plan_starts fixed w (take k xs) ++ F.later
unfolding starts_from
blocks-front w xs zero F l = absurd (omega arith)
blocks-front w [] (suc k) F l = grind (arith, F.same_starts)
blocks-front w (x ∷ xs) (suc k) F l = F.same_starts

-- if planning accepts a list, it accepts the first k sizes, in any lists that 13 lets pass
pub front-part : (xs : List ℕ) (o b w : ℕ) (p : ManagedPlan) → planned_for xs o b w ≡ Ok p
    → (k o' b' : ℕ) → length (take k xs) ≤ o' → max 1 (length (take k xs)) ≤ b' → FrontPart xs w k o' b'
front-part xs o b w p e k o' b' lo lb =
    let A = accepted xs o b w p e in
    let F : Fronted fixed w (initial fixed w) xs k 0 =
    front fixed w xs k (initial fixed w) 0 A.1.state A.1.ran in
    let passed = passed (take k xs) o' b' w
    (record { width = A.0.width; offsets = lo; blocks = lb; sizes = sizes-front _ 0 xs k A.0.sizes }) in
    record {
      plan = totals fixed w (end_state fixed w F.state);
      accepted = answers (take k xs) o' b' w (Ok F.state) passed F.is;
      same_offsets = F.same_offsets;
      later = F.later;
      same_blocks = blocks-front w xs k F;
    }

-- such as those of the whole list
pub front-part-there : (xs : List ℕ) (o b w : ℕ) (p : ManagedPlan) → planned_for xs o b w ≡ Ok p → (k : ℕ)
    → FrontPart xs w k o b
front-part-there xs o b w p e k =
    let A = (accepted xs o b w p e).0 in
    let a = A.offsets in
    let c = A.blocks in
    let l = length-take k xs in
    front-part xs o b w p e k o b (omega arith) (omega arith)
