-- The heap space ends at an object exactly where no slot that is left fits it.
use Rattle.std.proofs.Common.{◌≡◌, ℕ, zero, suc, ◌+◌, ◌<◌, ◌≤◌, ◌↔◌, List, [], ◌∷◌, length, take, slice_index, Some}
use Rattle.std.proofs.Common.{None, Ok, Err, Option, sym, refl, ap, ◌∙◌, subst, zero-add, arith}
use Rattle.std.proofs.lemmas.Bool.Decides.{nat_tests}
use Rattle.refusals.specs.declared.FormatError.TheVariants.{HeapSpaceExhausted}
use Rattle.table.specs.Table.{Table, fixed}
use Rattle.table.specs.Sizes.{direct_header}
use Rattle.table.specs.declared.Slot.{Slot}
use Rattle.planner.specs.declared.State.{State}
use Rattle.planner.specs.Steps.{open_at, initial, block_end, opened, step_of, run_from, run}
use Rattle.plan.specs.Checks.{input_checked}
use Rattle.plan.specs.Answer.{planned_for}
use Rattle.planner.proofs.Opening.{open-found, full-none}
use Rattle.planner.proofs.Stepping.{Sane, step-open}
use Rattle.planner.proofs.Running.{run-stops, run-goes}
use Rattle.plan.specs.Plans.{NoSlotFits}
use Rattle.table_laws.proofs.Format.{SlotOf, fixed-slot, slot-fixed}
use Rattle.plan.proofs.Laying.{still-ok, ran-ok, ran-laid}
use Rattle.plan.proofs.Answering.{answers, ended}

-- ---- runs that stop

-- from the state s on the n-th size is the first without room
record Stopped (t : Table) (w : ℕ) (s : State) (xs : List ℕ) (i n : ℕ) : Type 0 where
  object : n < length xs
  state : State
  before : run_from t w s (take n xs) i ≡ Ok state
  ends : step_of t w state (slice_index xs n) ≡ None

module _ (t : Table) (w : ℕ) where
  -- a run that stops has such a size
  stopped : (xs : List ℕ) (s : State) (i j : ℕ) → run_from t w s xs i ≡ Err j
      → (n : ℕ) × (j ≡ i + n) × Stopped t w s xs i n
  unfolding run_from
  stopped [] s i j e = absurd cc
  stopped (x ∷ xs) s i j e = go (step_of t w s x) refl (λ s₁. stopped xs s₁ (suc i) j)
    where
      go : (v : Option (State × ℕ)) → step_of t w s x ≡ v
          → ((s₁ : State) → run_from t w s₁ xs (suc i) ≡ Err j
          → (n : ℕ) × (j ≡ suc i + n) × Stopped t w s₁ xs (suc i) n)
          → (n : ℕ) × (j ≡ i + n) × Stopped t w s (x ∷ xs) i n
      go (Some (s₁, o)) q ih =
          let (n, j-is, S) = ih s₁ (sym (run-goes t w s x xs s₁ o q i) ∙ e) in (
            suc n,
            omega arith,
            record {
              object = omega (arith, S.object);
              state = S.state;
              before = run-goes t w s x (take n xs) s₁ o q i ∙ S.before;
              ends = S.ends;
            },
          )
      go None q ih =
          let here : Stopped t w s (x ∷ xs) i 0 = record { object = omega arith; state = s; before = refl; ends = q } in
          (0, grind (arith, run-stops t w s x xs i q), here)

  -- and back
  stops : (xs : List ℕ) (s : State) (i n : ℕ) → Stopped t w s xs i n → run_from t w s xs i ≡ Err (i + n)
  unfolding run_from
  stops [] s i n S = absurd (omega (arith, S.object))
  stops (x ∷ xs) s i zero S = grind (arith, S)
  stops (x ∷ xs) s i (suc n) S =
      grind (
        arith,
        λ (p : State × ℕ) (q : step_of t w s x ≡ Some p). λ (b : run_from t w p.0 (take n xs) (suc i) ≡ Ok S.state).
            stops xs p.0 (suc i) n
            (record { object = omega (arith, S.object); state = S.state; before = b; ends = S.ends }),
      )

-- ---- one step

module _ (t : Table) (g : t.start_bits ≤ t.direct_bits) (k : t.start_bits ≤ t.heap_bits) (w : ℕ) (s : State) (x : ℕ)
    (I : Sane t w s) where
  -- x bytes fit neither the current block nor a slot after it
  record Nowhere : Type 0 where
    not_here : s.size < s.fill + x
    nowhere : (c z : ℕ) → SlotOf t c z → block_end s ≤ c → z < direct_header t w + x

  -- a step ends exactly there
  step-ends : step_of t w s x ≡ None → Nowhere
  step-ends e =
      let none : open_at t (direct_header t w + x) (block_end s) ≡ None = grind (arith, nat_tests) in
      record {
        not_here = grind (arith, nat_tests);
        nowhere = λ c z S l.
            grind (arith, full-none t g k (direct_header t w + x) (block_end s) I.next_slot none c S.starts l S.inside);
      }

  ends-step : Nowhere → step_of t w s x ≡ None
  ends-step N = step-open t w s x N.not_here
      ∙ ap (opened t w s x) (go (open_at t (direct_header t w + x) (block_end s)) refl)
    where
      go : (v : Option Slot) → open_at t (direct_header t w + x) (block_end s) ≡ v → v ≡ None
      go (Some b) q =
          let F = open-found t g k (direct_header t w + x) (block_end s) I.next_slot b q in
          absurd (grind (
            arith,
            N.nowhere b.start b.size
                (record { starts = F.starts; inside = F.inside; size_is = ap (λ (y : Slot). y.size) F.is }) F.after,
            F.enough,
          ))
      go None q = refl

-- ---- the fixed table

ok-after : (w : ℕ) (xs : List ℕ) (s : State) → run fixed w xs ≡ Ok s → Sane fixed w s
ok-after w xs s e = still-ok (ran-ok w) (ran-laid w xs s e)

-- the answer is 12 at the i-th object exactly if the tests before pass and no slot that is left fits it
pub ends-iff-none-fits : (xs : List ℕ) (o b w i : ℕ) → (planned_for xs o b w ≡ Err (HeapSpaceExhausted i))
    ↔ ((input_checked xs o b w ≡ Ok tt) × NoSlotFits w xs i)
ends-iff-none-fits xs o b w i = (only, always)
  where
    only : planned_for xs o b w ≡ Err (HeapSpaceExhausted i) → (input_checked xs o b w ≡ Ok tt) × NoSlotFits w xs i
    only e =
        let E = ended xs o b w i e in
        let R = stopped fixed w xs (initial fixed w) 0 i E.1 in
        let S = subst (Stopped fixed w (initial fixed w) xs 0) (sym (R.1 ∙ zero-add R.0)) R.2 in
        let sane = ok-after w (take i xs) S.state S.before in
        let N = step-ends fixed (omega arith) (omega arith) w S.state (slice_index xs i) sane S.ends in (
          E.0,
          record {
            is_object = S.object;
            state = S.state;
            state_before = S.before;
            not_in_block = N.not_here;
            not_in_later = λ c z D l. N.nowhere c z (fixed-slot D) l;
          },
        )

    always : (input_checked xs o b w ≡ Ok tt) × NoSlotFits w xs i → planned_for xs o b w ≡ Err (HeapSpaceExhausted i)
    always (c, N) =
        let sane = ok-after w (take i xs) N.state N.state_before in
        let S : Stopped fixed w (initial fixed w) xs 0 i = record {
          object = N.is_object;
          state = N.state;
          before = N.state_before;
          ends = ends-step fixed (omega arith) (omega arith) w N.state (slice_index xs i) sane
              (record { not_here = N.not_in_block; nowhere = λ c z S l. N.not_in_later c z (slot-fixed S) l });
        } in
        answers xs o b w (Err i) c (stops fixed w xs (initial fixed w) 0 i S ∙ ap Err (zero-add i))
