-- An open plan is that of the accepted sizes in one list.
use Rattle.std.proofs.Common.{◌≡◌, ℕ, ◌+◌, ◌<◌, ◌≤◌, max, true, List, [], ◌∷◌, ◌++◌, length, take, slice_index, Option}
use Rattle.std.proofs.Common.{Some, None, Ok, Err, Result, inl, inr, refl, sym, ap, ◌∙◌, arith, length-append}
use Rattle.std.proofs.Common.{append_assoc, append-nil}
use Rattle.std.proofs.Math.Seq.{take-append-add, get_or-append_seam}
use Rattle.std.proofs.lemmas.Bool.{cases_lt}
use Rattle.std.proofs.lemmas.Bool.Decides.{nat_tests}
use Rattle.std.proofs.lemmas.List.{get_or-take}
use Rattle.fields.specs.Widths.{legal}
use Rattle.refusals.specs.declared.FormatError.{FormatError}
use Rattle.refusals.specs.declared.FormatError.TheVariants.{ObjectTooLarge, HeapSpaceExhausted}
use Rattle.table.specs.Table.{fixed}
use Rattle.table.specs.Sizes.{max_managed}
use Rattle.planner.specs.declared.State.{State}
use Rattle.planner.specs.Steps.{initial, step_of, run_from, offsets_from, plan_offsets}
use Rattle.plan.specs.declared.ManagedPlan.{ManagedPlan}
use Rattle.plan.specs.Checks.{sizes_checked, input_checked}
use Rattle.plan.specs.End.{end_state}
use Rattle.plan.specs.Answer.{totals, planned_for}
use Rattle.plan.proofs.Checking.{passed}
use Rattle.plan.proofs.Answering.{accepted, answers}
use Rattle.plan.proofs.Tally.{tallied}
use Rattle.plan.proofs.Front.{front-part}
use Rattle.planner.proofs.Reaching.{run-snoc}
use Rattle.open_plan.specs.Open.{IsPlanOf, Extends, most_objects}
use Rattle.open_plan.specs.Additions.{placed_at, addition, accepted_sizes, given_offsets, state_after, plan_then}
use Rattle.open_plan.specs.Additions.{NextAsPlanned, AdditionsPlanned}
use Rattle.open_plan.proofs.OneMore.{passes-snoc, too-large-snoc, run-ends, offsets-snoc}

-- before the first object
pub of-none : (w : ℕ) → IsPlanOf w (initial fixed w) 0 []
unfolding run_from sizes_checked
of-none w = record { objects_counted = refl; sizes_pass = refl; state_planned = refl }

module _ {w : ℕ} {s : State} {n : ℕ} {xs : List ℕ} (P : IsPlanOf w s n xs) where
  -- planning the list gives the totals of this state
  pub planned-totals : legal w ≡ true → (o b : ℕ) → length xs ≤ o → max 1 (length xs) ≤ b
      → planned_for xs o b w ≡ Ok (totals fixed w (end_state fixed w s))
  planned-totals l o b lo lb =
      answers xs o b w (Ok s)
      (passed xs o b w (record { width = l; offsets = lo; blocks = lb; sizes = P.sizes_pass }))
      P.state_planned

  module _ {x : ℕ} where
    -- one object more
    module _ {s' : State} {o : ℕ} (small : x ≤ max_managed fixed w) (placed : step_of fixed w s x ≡ Some (s', o)) where
      pub one-more : IsPlanOf w s' (n + 1) (xs ++ (x ∷ []))
      one-more = record {
        objects_counted = let c = P.objects_counted in omega (arith, length-append xs (x ∷ []));
        sizes_pass = passes-snoc _ x xs 0 P.sizes_pass small;
        state_planned = run-snoc fixed w xs (initial fixed w) s s' 0 x o P.state_planned placed;
      }

      pub offsets-more : plan_offsets fixed w (xs ++ (x ∷ [])) ≡ plan_offsets fixed w xs ++ (o ∷ [])
      offsets-more = offsets-snoc fixed w x xs (initial fixed w) s s' 0 o P.state_planned placed

      -- it has this heap offset in every longer list, too
      pub stays : (later : List ℕ) (po pb : ℕ) (p : ManagedPlan) → planned_for (xs ++ (x ∷ later)) po pb w ≡ Ok p
          → slice_index (plan_offsets fixed w (xs ++ (x ∷ later))) (length xs) ≡ o
      stays later po pb p e =
          let k = length xs + 1 in
          let all = xs ++ (x ∷ later) in
          let legal-width : legal w ≡ true = (accepted all po pb w p e).0.width in
          let counted : length (plan_offsets fixed w xs) ≡ length xs =
          (tallied xs (length xs) (max 1 (length xs)) w _
          (planned-totals legal-width (length xs) (max 1 (length xs)) (omega arith) (omega arith))).offsets in
          let front : take k all ≡ xs ++ (x ∷ []) = take-append-add xs (x ∷ later) 1 in
          let many : length (take k all) ≡ k = ap length front ∙ length-append xs (x ∷ []) in
          let F = front-part all po pb w p e k k k (omega (arith, many)) (omega (arith, many)) in
          let same : take k (plan_offsets fixed w all) ≡ plan_offsets fixed w xs ++ (o ∷ []) =
          sym F.same_offsets ∙ ap (λ (l : List ℕ). plan_offsets fixed w l) front ∙ offsets-more in
          sym (get_or-take k (plan_offsets fixed w all) (length xs) 0 (omega arith))
          ∙ ap (λ (l : List ℕ). slice_index l (length xs)) same
          ∙ ap (λ (i : ℕ). slice_index (plan_offsets fixed w xs ++ (o ∷ [])) i) (sym counted)
          ∙ get_or-append_seam (plan_offsets fixed w xs) o [] 0

      pub extends : Extends w s' (n + 1) xs x o
      extends = record { is_plan = one-more; offsets_are = offsets-more; offset_stays = stays }

-- what is refused of an object, planning the list with it refuses
module _ (w : ℕ) (xs : List ℕ) (x po pb : ℕ) (l : legal w ≡ true) (lo : length xs < po) (lb : length xs < pb) where
  tests : (r : Result (Unit {0}) FormatError) → sizes_checked (max_managed fixed w) 0 (xs ++ (x ∷ [])) ≡ r
      → input_checked (xs ++ (x ∷ [])) po pb w ≡ r
  tests r e =
      let n : length (xs ++ (x ∷ [])) ≡ length xs + 1 = length-append xs (x ∷ []) in
      grind (arith, nat_tests)

  module _ {s : State} {n : ℕ} (P : IsPlanOf w s n xs) where
    pub too-large : max_managed fixed w < x → planned_for (xs ++ (x ∷ [])) po pb w ≡ Err (ObjectTooLarge n x)
    unfolding planned_for
    too-large big =
        let counted = P.objects_counted in
        let large = too-large-snoc (max_managed fixed w) x xs 0 n (omega arith) P.sizes_pass big in
        rw (tests (Err (ObjectTooLarge n x)) large) refl

    pub no-slot : x ≤ max_managed fixed w → step_of fixed w s x ≡ None
        → planned_for (xs ++ (x ∷ [])) po pb w ≡ Err (HeapSpaceExhausted n)
    no-slot small none =
        let counted = P.objects_counted in
        answers (xs ++ (x ∷ [])) po pb w (Err n)
        (tests (Ok tt) (passes-snoc (max_managed fixed w) x xs 0 P.sizes_pass small))
        (run-ends fixed w x xs (initial fixed w) s 0 n (omega arith) P.state_planned none)

-- ---- the answer to a size, by what it is

module _ (w : ℕ) (s : State) (n x : ℕ) where
  answer-large : max_managed fixed w < x → addition w s n x ≡ Err (ObjectTooLarge n x)
  answer-large big = grind (arith, nat_tests)

  answer-full : x ≤ max_managed fixed w → n ≡ most_objects → addition w s n x ≡ Err (HeapSpaceExhausted n)
  answer-full small many = grind (arith, nat_tests)

  answer-step : x ≤ max_managed fixed w → n < most_objects → addition w s n x ≡ placed_at n (step_of fixed w s x)
  answer-step small few = grind (arith, nat_tests)

-- so planning the sizes and this one in one list answers
module _ {w : ℕ} {s : State} {n : ℕ} {xs : List ℕ} (P : IsPlanOf w s n xs) (x : ℕ) where
  next-planned : legal w ≡ true → length xs < most_objects → (po pb : ℕ) → length xs < po → length xs < pb
      → planned_for (xs ++ (x ∷ [])) po pb w ≡ plan_then w (addition w s n x)
  next-planned l few po pb lo lb =
      elim (cases_lt (max_managed fixed w) x) [
        | inl big ↦ rw (answer-large w s n x big) (too-large w xs x po pb l lo lb P big)
        | inr small ↦
            rw (answer-step w s n x small (let c = P.objects_counted in omega arith))
            (by-step small (step_of fixed w s x) refl)
      ]
    where
      by-step : x ≤ max_managed fixed w → (r : Option (State × ℕ)) → step_of fixed w s x ≡ r
          → planned_for (xs ++ (x ∷ [])) po pb w ≡ plan_then w (placed_at n r)
      by-step small (Some (s', o)) q =
          let many : length (xs ++ (x ∷ [])) ≡ length xs + 1 = length-append xs (x ∷ []) in
          planned-totals (one-more P small q) l po pb (omega arith) (omega arith)
      by-step small None q = no-slot w xs x po pb l lo lb P small q

  next-as-planned : NextAsPlanned w xs x (addition w s n x)
  next-as-planned =
      let counted = P.objects_counted in
      record {
        as_planned = λ l few. next-planned l (omega arith);
        full = λ many small. let e : n ≡ most_objects = omega arith in
            answer-full w s n x small e ∙ ap (λ (i : ℕ). Err (HeapSpaceExhausted i)) e;
        full_too_large = λ many big. let e : n ≡ most_objects = omega arith in
            answer-large w s n x big ∙ ap (λ (i : ℕ). Err (ObjectTooLarge i x)) e;
      }

-- ---- additions one after another

module _ (w : ℕ) (s : State) (n x : ℕ) where
  module _ (s' : State) (o : ℕ) (q : addition w s n x ≡ Ok (s', o)) where
    -- what is accepted was small enough, and placed
    pub small-placed : (x ≤ max_managed fixed w) × (step_of fixed w s x ≡ Some (s', o))
    small-placed = (grind (arith, nat_tests), grind (arith, nat_tests))

    -- and there was a number for it
    countable : n + 1 ≤ most_objects
    countable = grind (arith, nat_tests)

    module _ (asked : List ℕ) where
      sizes-more : accepted_sizes w s n (x ∷ asked) ≡ x ∷ accepted_sizes w s' (n + 1) asked
      unfolding accepted_sizes
      sizes-more = rw (q, accepted_sizes) refl

      given-more : given_offsets w s n (x ∷ asked) ≡ o ∷ given_offsets w s' (n + 1) asked
      unfolding given_offsets
      given-more = rw (q, given_offsets) refl

      state-more : state_after w s n (x ∷ asked) ≡ state_after w s' (n + 1) asked
      unfolding state_after
      state-more = rw (q, state_after) refl

  module _ (e : FormatError) (q : addition w s n x ≡ Err e) (asked : List ℕ) where
    sizes-same : accepted_sizes w s n (x ∷ asked) ≡ accepted_sizes w s n asked
    unfolding accepted_sizes
    sizes-same = rw (q, accepted_sizes) refl

    given-same : given_offsets w s n (x ∷ asked) ≡ given_offsets w s n asked
    unfolding given_offsets
    given-same = rw (q, given_offsets) refl

    state-same : state_after w s n (x ∷ asked) ≡ state_after w s n asked
    unfolding state_after
    state-same = rw (q, state_after) refl

-- from the plan of the sizes xs on the plan is that of them and the accepted ones, ys, and so are the heap offsets
record Came (w : ℕ) (s : State) (n : ℕ) (xs asked ys : List ℕ) : Type 0 where
  are_counted : length ys ≤ most_objects
  is_plan : IsPlanOf w (state_after w s n asked) (length ys) ys
  offsets_are : plan_offsets fixed w xs ++ given_offsets w s n asked ≡ plan_offsets fixed w ys

abbrev Comes : (w : ℕ) (asked : List ℕ) → Type 0
Comes w asked =
    (s : State) (n : ℕ) (xs ys : List ℕ) → IsPlanOf w s n xs → n ≤ most_objects
    → ys ≡ xs ++ accepted_sizes w s n asked → Came w s n xs asked ys

came : (w : ℕ) (asked : List ℕ) → Comes w asked
unfolding accepted_sizes given_offsets state_after
came w [] s n xs ys P few e =
    let counted = P.objects_counted in
    rw (e ∙ append-nil xs)
    (record {
      are_counted = omega arith;
      is_plan = record { objects_counted = refl; sizes_pass = P.sizes_pass; state_planned = P.state_planned };
      offsets_are = append-nil (plan_offsets fixed w xs);
    })
came w (x ∷ asked) s n xs ys P few e = by (addition w s n x) refl (came w asked)
  where
    by : (r : Result (State × ℕ) FormatError) → addition w s n x ≡ r → Comes w asked → Came w s n xs (x ∷ asked) ys
    by (Ok (s', o)) q later =
        let (small, placed) = small-placed w s n x s' o q in
        let rest = accepted_sizes w s' (n + 1) asked in
        let given = given_offsets w s' (n + 1) asked in
        let whole : ys ≡ (xs ++ (x ∷ [])) ++ rest =
        e ∙ ap (λ (l : List ℕ). xs ++ l) (sizes-more w s n x s' o q asked) ∙ sym (append_assoc xs (x ∷ []) rest) in
        let C = later s' (n + 1) (xs ++ (x ∷ [])) ys (one-more P small placed) (countable w s n x s' o q) whole in
        record {
          are_counted = C.are_counted;
          is_plan = rw (state-more w s n x s' o q asked) C.is_plan;
          offsets_are =
              ap (λ (l : List ℕ). plan_offsets fixed w xs ++ l) (given-more w s n x s' o q asked)
              ∙ sym (append_assoc (plan_offsets fixed w xs) (o ∷ []) given)
              ∙ ap (λ (l : List ℕ). l ++ given) (sym (offsets-more P small placed))
              ∙ C.offsets_are;
        }
    by (Err f) q later =
        let C = later s n xs ys P few (e ∙ ap (λ (l : List ℕ). xs ++ l) (sizes-same w s n x f q asked)) in
        record {
          are_counted = C.are_counted;
          is_plan = rw (state-same w s n x f q asked) C.is_plan;
          offsets_are = rw (given-same w s n x f q asked) C.offsets_are;
        }

-- from the plan of no objects on
came-first : (w : ℕ) (asked : List ℕ)
    → Came w (initial fixed w) 0 [] asked (accepted_sizes w (initial fixed w) 0 asked)
came-first w asked =
    came w asked (initial fixed w) 0 [] (accepted_sizes w (initial fixed w) 0 asked) (of-none w) (omega arith) refl

pub additions-planned : AdditionsPlanned
unfolding offsets_from
additions-planned w asked =
    let C = came-first w asked in
    record {
      accepted = accepted_sizes w (initial fixed w) 0 asked;
      are_accepted = refl;
      are_counted = C.are_counted;
      is_plan = C.is_plan;
      offsets_are = C.offsets_are;
      totals_are = planned-totals C.is_plan;
      each = λ before size after e. next-as-planned (came-first w before).is_plan size;
    }
