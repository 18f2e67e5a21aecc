-- The objects of a plan fit into the bodies of the root's slots: so no total falls below zero.
use Rattle.std.proofs.Common.{◌≡◌, ℕ, suc, ◌+◌, ◌-◌, ◌^◌, ◌<◌, ◌≤◌, Bool, ◌⊎◌, List, [], ◌∷◌, Some, Ok, refl, ap, ◌∙◌}
use Rattle.std.proofs.Common.{subst, inl, inr, arith, eq-eqb, ne_eqb}
use Rattle.std.proofs.lemmas.Bool.{cases_eq}
use Rattle.std.proofs.Math.Logic.{∥∥₁_elim}
use Rattle.std.proofs.Props.{props}
use Rattle.std.proofs.lemmas.Bool.Decides.{nat_tests}
use Rattle.table.specs.Table.{fixed, row_offset, row_of}
use Rattle.table.specs.Slots.{slot_at}
use Rattle.table.specs.Sizes.{direct_header}
use Rattle.table.proofs.Rows.{row-mono, row_up, row-29, heap-rows}
use Rattle.table.proofs.RootRows.{covers}
use Rattle.table.proofs.Slots.{Start}
use Rattle.table_laws.specs.Count.{count}
use Rattle.table_laws.proofs.Counting.{count_add, count-all}
use Rattle.table_laws.proofs.Format.{in_body, slot-body}
use Rattle.table_laws.proofs.Bodies.{first-bodies, bodies}
use Rattle.planner.specs.Steps.{block_end, initial, step_of, run_from, run}
use Rattle.plan.specs.End.{one_block, end_state, rows_of_root}
use Rattle.planner.specs.Requires.{IsReached}
use Rattle.plan.specs.Requires.{Totalled}
use Rattle.planner.specs.declared.State.{State}
use Rattle.planner.proofs.Stepping.{Same, New, Placing}
use Rattle.planner.proofs.Running.{Sound, sound-initial, sound-bounded, sound-step, placing}

abbrev bodies_below : ℕ → ℕ → ℕ
bodies_below w n = count (in_body fixed (direct_header fixed w)) n

below-mono : (w m n : ℕ) → m ≤ n → bodies_below w m ≤ bodies_below w n
below-mono w m n l =
    let e : m + (n - m) ≡ n = omega arith in
    grind (arith, count_add (in_body fixed (direct_header fixed w)) m (n - m))

-- a slot's body lies past its header
below-slot : (w b : ℕ) → Start fixed b → b < 2 ^ 40 → direct_header fixed w ≤ (slot_at fixed b).size
    → bodies_below w b + ((slot_at fixed b).size - direct_header fixed w)
    ≤ bodies_below w (b + (slot_at fixed b).size)
below-slot w b s l f =
    let h = direct_header fixed w in
    let p : ℕ → Bool = in_body fixed h in
    let z = (slot_at fixed b).size in
    let e : b + z ≡ b + h + (z - h) = omega arith in
    let all : count (λ x. p (b + h + x)) (z - h) ≡ z - h =
    count-all (λ x. p (b + h + x)) (z - h)
    (λ y u. slot-body fixed (omega arith) h (b + h + y) (omega arith)
    (record { starts = s; inside = l; size_is = refl }) (omega arith) (omega arith)) in
    let a = ap (count p) e ∙ count_add p (b + h) (z - h) in
    omega (arith, below-mono w b (b + h))

-- the objects and what is left of the current block fit into the bodies up to its end
pub record Roomy (w : ℕ) (s : State) : Type 0 where
  pub sound : Sound w s
  pub room : s.used + (s.size - s.fill) ≤ bodies_below w (block_end s)

module _ (w : ℕ) (l : w ≤ 255) where
  roomy-step : (s : State) (x : ℕ) (s' : State) (o : ℕ) → Roomy w s → step_of fixed w s x ≡ Some (s', o) → Roomy w s'
  roomy-step s x s' o R e = record { sound = sound-step w s x s' o l R.sound e; room = go P.way }
    where
      P : Placing fixed w s x s' o
      P = placing w s x s' o l R.sound e

      go : Same s s' o ⊎ New fixed w s s' o → s'.used + (s'.size - s'.fill) ≤ bodies_below w (block_end s')
      go (inl n) = grind (arith, P, R.room)
      go (inr n) =
          grind (
            arith,
            P,
            R.room,
            below-mono w (block_end s) s'.start n.after,
            below-slot w s'.start n.starts n.inside,
          )

  roomy-from : (xs : List ℕ) (s : State) (i : ℕ) (s' : State) → Roomy w s → run_from fixed w s xs i ≡ Ok s' → Roomy w s'
  unfolding run_from
  roomy-from [] s i s' R e = subst (Roomy w) (let z : s ≡ s' = cc in z) R
  roomy-from (x ∷ xs) s i s' R e =
      grind (
        arith,
        λ (p : State × ℕ) (q : step_of fixed w s x ≡ Some p).
            roomy-from xs p.0 (suc i) s' (roomy-step s x p.0 p.1 R q),
      )

  roomy : (xs : List ℕ) (s : State) → run fixed w xs ≡ Ok s → Roomy w s
  roomy xs s e = roomy-from xs (initial fixed w) 0 s (record { sound = sound-initial w; room = omega arith }) e

-- ---- the root's rows

-- an end past the first slot: some rows, at most 29, that reach it
pub record Reach (e : ℕ) : Type 0 where
  pub some : 0 < rows_of_root fixed e
  pub most : rows_of_root fixed e ≤ 29
  pub far : e ≤ row_offset fixed (rows_of_root fixed e)

-- the one block of the starting size at 0
pub no_rows : (e : ℕ) → e ≡ 1024 → rows_of_root fixed e ≡ 0
no_rows e q = grind (arith, nat_tests)

-- any other end: the row of its last byte is the last
pub rows_of_end : (e : ℕ) → (e ≡ 1024 → ⊥) → 0 < e → e ≤ 2 ^ 40 → rows_of_root fixed e ≡ suc (row_of fixed (e - 1))
rows_of_end e n p l = grind (arith, nat_tests, covers e p l)

pub reach : (e : ℕ) → 0 < e → e ≤ 2 ^ 40 → (e ≡ 1024 → ⊥) → Reach e
reach e p l n =
    grind (
      arith,
      rows_of_end e n p l,
      row_up fixed (e - 1) (heap-rows fixed (e - 1) (omega arith)),
      row-29 (e - 1) (omega arith),
    )

-- ---- what the totals ask

module _ (w : ℕ) (l : w ≤ 255) (s : State) where
  one-totalled : Totalled w (one_block fixed w)
  one-totalled = grind arith

  some-totalled : (s.count ≡ 0 → ⊥) → Roomy w s → Totalled w s
  some-totalled n R =
      let I = R.sound.ok in
      let p : 0 < block_end s = omega (arith, I.taken, I.blocks) in
      record {
        block_placed = p;
        bounded = sound-bounded w s l R.sound;
        fits_one_block = λ e. grind (arith, R.room, first-bodies fixed (direct_header fixed w));
        fits_rows = λ e.
            let T = reach (block_end s) p I.heap e in
            let f : row_offset fixed (rows_of_root fixed (block_end s)) ≤ 2 ^ 40 =
            row-mono fixed (rows_of_root fixed (block_end s)) 29 T.most in
            omega (
              arith,
              R.room,
              below-mono w (block_end s) (row_offset fixed (rows_of_root fixed (block_end s))) T.far,
              bodies fixed (direct_header fixed w) (omega arith) (omega arith) (rows_of_root fixed (block_end s)) f,
            );
      }

  pub totalled : (xs : List ℕ) → run fixed w xs ≡ Ok s → Totalled w (end_state fixed w s)
  totalled xs e =
      elim (cases_eq s.count 0) [
        | inl q ↦ rw (eq-eqb s.count 0 q, end_state) one-totalled
        | inr q ↦ rw (ne_eqb s.count 0 q, end_state) (some-totalled q (roomy w l xs s e))
      ]

-- a plan under way has totals
pub reached-totalled : (w : ℕ) (s : State) → w ≤ 255 → IsReached w s → Totalled w (end_state fixed w s)
reached-totalled w s l R = ∥∥₁_elim R (hlevel props) (λ p. totalled w l s p.0 p.1)
