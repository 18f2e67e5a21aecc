-- Objects that fit into the current block, taken at once: planning goes on from the state after them.
use Rattle.std.proofs.Common.{◌≡◌, ℕ, ◌+◌, ◌<◌, ◌≤◌, Bool, true, false, List, [], ◌∷◌, ◌++◌, length, take, drop}
use Rattle.std.proofs.Common.{slice_index, nat_le, refl, arith, leb-true, leb-false, length-drop, get_or-drop}
use Rattle.std.proofs.Common.{drop-drop, take-add, take-append-drop}
use Rattle.std.proofs.lemmas.Bool.Decides.{nat_tests}
use Rattle.std.proofs.lemmas.List.{drop_more, drop_all}
use Rattle.table.specs.Table.{Table, fixed}
use Rattle.planner.specs.Steps.{filled, run_from, offsets_from, starts_from}
use Rattle.planner.specs.Filling.{fill_state, fill_offsets}
use Rattle.planner.specs.declared.State.{State}
use Rattle.planner.proofs.Stepping.{step_same}
use Rattle.planner.proofs.Running.{Sound, Going, sound-step}

-- ---- one object

module _ (s : State) (x : ℕ) (xs : List ℕ) where
  pub state-fits : s.fill + x ≤ s.size → fill_state s (x ∷ xs) ≡ fill_state (filled s x) xs
  unfolding fill_state
  state-fits l = grind (arith, nat_tests)

  pub state-full : s.size < s.fill + x → fill_state s (x ∷ xs) ≡ s
  unfolding fill_state
  state-full l = grind (arith, nat_tests)

-- ---- planning goes on after them

-- s' is the state after the first of the sizes xs, which have the offsets os and open no block
pub record Fill (t : Table) (w : ℕ) (s : State) (xs : List ℕ) (s' : State) (os : List ℕ) : Type 0 where
  pub inside : length os ≤ length xs
  pub same_run : (ys : List ℕ) (i : ℕ)
      → run_from t w s (take (length os) xs ++ ys) i ≡ run_from t w s' ys (i + length os)
  pub same_offsets : offsets_from t w s xs ≡ os ++ offsets_from t w s' (drop (length os) xs)
  pub same_starts : starts_from t w s xs ≡ starts_from t w s' (drop (length os) xs)
  pub same_count : s'.count ≡ s.count
  pub stops : length os < length xs → s'.size < s'.fill + slice_index xs (length os)

module _ (t : Table) (w : ℕ) where
  fill_none : (s : State) (xs : List ℕ) → (0 < length xs → s.size < s.fill + slice_index xs 0) → Fill t w s xs s []
  fill_none s xs h = grind arith

  fill_more : (s : State) (x : ℕ) (xs : List ℕ) (s' : State) (os : List ℕ) → s.fill + x ≤ s.size
      → Fill t w (filled s x) xs s' os → Fill t w s (x ∷ xs) s' ((s.start + s.fill) ∷ os)
  unfolding run_from offsets_from starts_from
  fill_more s x xs s' os l F = grind (arith, nat_tests, step_same t w s x l)

  pub fill : (xs : List ℕ) (s : State) → Fill t w s xs (fill_state s xs) (fill_offsets s xs)
  unfolding fill_state fill_offsets
  fill [] s = fill_none s [] (λ u. absurd (omega arith))
  fill (x ∷ xs) s = go (nat_le (s.fill + x) s.size) refl (fill xs (filled s x))
    where
      go : (b : Bool) → nat_le (s.fill + x) s.size ≡ b
          → Fill t w (filled s x) xs (fill_state (filled s x) xs) (fill_offsets (filled s x) xs)
          → Fill t w s (x ∷ xs) (elim b [ true ↦ fill_state (filled s x) xs | false ↦ s ])
          (elim b [ true ↦ (s.start + s.fill) ∷ fill_offsets (filled s x) xs | false ↦ [] ])
      go true e ih = fill_more s x xs _ _ (leb-true (s.fill + x) s.size e) ih
      go false e ih = fill_none s (x ∷ xs) (λ u. leb-false (s.fill + x) s.size e)

sound-fill : (w : ℕ) → w ≤ 255 → (xs : List ℕ) (s : State) → Sound w s → Sound w (fill_state s xs)
unfolding fill_state
sound-fill w l [] s S = S
sound-fill w l (x ∷ xs) s S =
    grind (
      arith,
      nat_tests,
      step_same fixed w s x,
      sound-fill w l xs (filled s x),
      sound-step w s x (filled s x) (s.start + s.fill) l S,
    )

-- the next object fits, or does not, or there is none
module _ (xs : List ℕ) (s : State) (next : ℕ) where
  module _ (l : next < length xs) where
    pub state-on : s.fill + slice_index xs next ≤ s.size
        → fill_state s (drop next xs) ≡ fill_state (filled s (slice_index xs next)) (drop (next + 1) xs)
    unfolding fill_state
    state-on f = grind (arith, nat_tests, drop_more)

    pub offsets-on : s.fill + slice_index xs next ≤ s.size
        → fill_offsets s (drop next xs)
        ≡ (s.start + s.fill) ∷ fill_offsets (filled s (slice_index xs next)) (drop (next + 1) xs)
    unfolding fill_offsets
    offsets-on f = grind (arith, nat_tests, drop_more)

    pub state-stop : s.size < s.fill + slice_index xs next → fill_state s (drop next xs) ≡ s
    unfolding fill_state
    state-stop f = grind (arith, nat_tests, drop_more)

    pub offsets-stop : s.size < s.fill + slice_index xs next → fill_offsets s (drop next xs) ≡ []
    unfolding fill_offsets
    offsets-stop f = grind (arith, nat_tests, drop_more)

  pub state-end : length xs ≤ next → fill_state s (drop next xs) ≡ s
  unfolding fill_state
  state-end l = grind (arith, drop_all)

  pub offsets-end : length xs ≤ next → fill_offsets s (drop next xs) ≡ []
  unfolding fill_offsets
  offsets-end l = grind (arith, drop_all)

-- ---- from where a loop stands, at the fixed table

-- after the objects that fit, s' is the state and j the index
module _ (w : ℕ) (xs : List ℕ) (s : State) (i : ℕ) (s' : State) (j : ℕ) (state-is : s' ≡ fill_state s (drop i xs))
    (next-is : j ≡ i + length (fill_offsets s (drop i xs))) where
  pub next-later : i ≤ j
  next-later = omega arith

  pub next-inside : i ≤ length xs → j ≤ length xs
  next-inside l = grind (arith, (fill fixed w (drop i xs) s).inside, length-drop i xs)

  rest-is : drop (length (fill_offsets s (drop i xs))) (drop i xs) ≡ drop j xs
  rest-is = grind (arith, drop-drop (length (fill_offsets s (drop i xs))) i xs)

  -- the objects that fit, and any others behind them
  pub run-then : (ys : List ℕ)
      → run_from fixed w s (take (length (fill_offsets s (drop i xs))) (drop i xs) ++ ys) i ≡ run_from fixed w s' ys j
  run-then ys = grind (arith, (fill fixed w (drop i xs) s).same_run ys i)

  -- the objects up to the next
  pub take-next : take j xs ≡ take i xs ++ take (length (fill_offsets s (drop i xs))) (drop i xs)
  take-next = grind (arith, take-add i (length (fill_offsets s (drop i xs))) xs)

  pub run-from-next : run_from fixed w s (drop i xs) i ≡ run_from fixed w s' (drop j xs) j
  run-from-next =
      grind (
        arith,
        rest-is,
        run-then (drop (length (fill_offsets s (drop i xs))) (drop i xs)),
        take-append-drop (length (fill_offsets s (drop i xs))) (drop i xs),
      )

  pub offsets-from-next : offsets_from fixed w s (drop i xs)
      ≡ fill_offsets s (drop i xs) ++ offsets_from fixed w s' (drop j xs)
  offsets-from-next = grind (arith, rest-is, (fill fixed w (drop i xs) s).same_offsets)

  pub starts-from-next : starts_from fixed w s (drop i xs) ≡ starts_from fixed w s' (drop j xs)
  starts-from-next = grind (arith, rest-is, (fill fixed w (drop i xs) s).same_starts)

  pub count_kept : s'.count ≡ s.count
  count_kept = grind (arith, (fill fixed w (drop i xs) s).same_count)

  pub next-full : j < length xs → s'.size < s'.fill + slice_index xs j
  next-full l =
      grind (
        arith,
        length-drop i xs,
        (fill fixed w (drop i xs) s).stops,
        get_or-drop i xs (length (fill_offsets s (drop i xs))) 0,
      )

  pub going-fill : w ≤ 255 → Going w xs s i → Going w xs s' j
  going-fill l I = grind (arith, next-inside, run-from-next, sound-fill w l (drop i xs) s I.sound)
