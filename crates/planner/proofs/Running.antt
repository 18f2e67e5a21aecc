-- The loops over the sizes, a turn at a time: what is left gives the answer.
use Rattle.std.proofs.Common.{◌≡◌, ℕ, suc, ◌+◌, ◌*◌, ◌^◌, ◌<◌, ◌≤◌, List, [], ◌∷◌, length, drop, slice_index, Some}
use Rattle.std.proofs.Common.{None, Ok, Err, refl, arith}
use Rattle.std.proofs.lemmas.Bool.Decides.{nat_tests}
use Rattle.std.proofs.lemmas.List.{drop_more, drop_all}
use Rattle.table.specs.Table.{Table, fixed}
use Rattle.table.proofs.Locating.{entered-small}
use Rattle.planner.specs.Steps.{block_end, initial, step_of, run_from, offsets_from, starts_from, run}
use Rattle.planner.specs.Requires.{Bounded}
use Rattle.planner.specs.declared.State.{State}
use Rattle.planner.proofs.Stepping.{Sane, Placing, step-placed, ok-initial}

-- ---- one object

module _ (t : Table) (w : ℕ) (s : State) (x : ℕ) (xs : List ℕ) where
  pub run-stops : (i : ℕ) → step_of t w s x ≡ None → run_from t w s (x ∷ xs) i ≡ Err i
  unfolding run_from
  run-stops i e = rw (e, run_from)

  module _ (s' : State) (o : ℕ) (e : step_of t w s x ≡ Some (s', o)) where
    pub run-goes : (i : ℕ) → run_from t w s (x ∷ xs) i ≡ run_from t w s' xs (suc i)
    unfolding run_from
    run-goes i = rw (e, run_from)

    pub offsets-go : offsets_from t w s (x ∷ xs) ≡ o ∷ offsets_from t w s' xs
    unfolding offsets_from
    offsets-go = rw (e, offsets_from)

    pub starts-go-same : s'.count ≤ s.count → starts_from t w s (x ∷ xs) ≡ starts_from t w s' xs
    unfolding starts_from
    starts-go-same u = grind (arith, nat_tests)

    pub starts-go-new : s.count < s'.count → starts_from t w s (x ∷ xs) ≡ s'.start ∷ starts_from t w s' xs
    unfolding starts_from
    starts-go-new u = grind (arith, nat_tests)

-- ---- one turn of a loop

module _ (t : Table) (w : ℕ) (xs : List ℕ) (s : State) (i : ℕ) (l : i < length xs) where
  module _ (e : step_of t w s (slice_index xs i) ≡ None) where
    pub run_ends : run_from t w s (drop i xs) i ≡ Err i
    unfolding run_from
    run_ends = grind (arith, drop_more)

    pub offsets-ended : offsets_from t w s (drop i xs) ≡ []
    unfolding offsets_from
    offsets-ended = grind (arith, drop_more)

    pub starts-ended : starts_from t w s (drop i xs) ≡ []
    unfolding starts_from
    starts-ended = grind (arith, drop_more)

  module _ (s' : State) (o : ℕ) (e : step_of t w s (slice_index xs i) ≡ Some (s', o)) where
    pub run-placed : run_from t w s (drop i xs) i ≡ run_from t w s' (drop (i + 1) xs) (i + 1)
    unfolding run_from
    run-placed = grind (arith, drop_more)

    pub offsets-placed : offsets_from t w s (drop i xs) ≡ o ∷ offsets_from t w s' (drop (i + 1) xs)
    unfolding offsets_from
    offsets-placed = grind (arith, drop_more)

    pub starts-new : s.count < s'.count
        → starts_from t w s (drop i xs) ≡ s'.start ∷ starts_from t w s' (drop (i + 1) xs)
    unfolding starts_from
    starts-new u = grind (arith, nat_tests, drop_more)

module _ (t : Table) (w : ℕ) (xs : List ℕ) (s : State) (i : ℕ) (l : length xs ≤ i) where
  pub run-done : run_from t w s (drop i xs) i ≡ Ok s
  unfolding run_from
  run-done = grind (arith, drop_all)

  pub offsets-done : offsets_from t w s (drop i xs) ≡ []
  unfolding offsets_from
  offsets-done = grind (arith, drop_all)

  pub starts-done : starts_from t w s (drop i xs) ≡ []
  unfolding starts_from
  starts-done = grind (arith, drop_all)

-- ---- the states on the way, at the fixed table

pub record Sound (w : ℕ) (s : State) : Type 0 where
  pub ok : Sane fixed w s
  pub deep : s.indirect ≤ s.count * 2 ^ 24

pub sound-initial : (w : ℕ) → Sound w (initial fixed w)
sound-initial w = record { ok = ok-initial fixed w (omega arith); deep = omega arith }

pub sound-bounded : (w : ℕ) (s : State) → w ≤ 255 → Sound w s → Bounded s
sound-bounded w s l S = grind arith

module _ (w : ℕ) (s : State) (x : ℕ) (s' : State) (o : ℕ) (l : w ≤ 255) (S : Sound w s)
    (e : step_of fixed w s x ≡ Some (s', o)) where
  pub placing : Placing fixed w s x s' o
  placing = step-placed fixed (omega arith) (omega arith) w s x S.ok s' o e

  pub sound-step : Sound w s'
  sound-step = grind (arith, placing, entered-small w (block_end s) s'.start l)

-- ---- planning without lists

pub record Going (w : ℕ) (xs : List ℕ) (s : State) (i : ℕ) : Type 0 where
  pub inside : i ≤ length xs
  pub sound : Sound w s
  pub rest : run fixed w xs ≡ run_from fixed w s (drop i xs) i

pub going_start : (w : ℕ) (xs : List ℕ) → Going w xs (initial fixed w) 0
going_start w xs = record { inside = omega arith; sound = sound-initial w; rest = refl }

module _ (w : ℕ) (xs : List ℕ) (s : State) (i : ℕ) (I : Going w xs s i) where
  pub going_on : w ≤ 255 → i < length xs → (s' : State) (o : ℕ) → step_of fixed w s (slice_index xs i) ≡ Some (s', o)
      → Going w xs s' (i + 1)
  going_on b l s' o e =
      grind (arith, sound-step w s (slice_index xs i) s' o b I.sound e, run-placed fixed w xs s i l s' o e)

  pub going-ends : i < length xs → step_of fixed w s (slice_index xs i) ≡ None → run fixed w xs ≡ Err i
  going-ends l e = grind (arith, run_ends fixed w xs s i l e)
