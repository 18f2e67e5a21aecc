-- The root: the one block of the starting size at 0, or the fewest rows that reach the last block's end.
use Rattle.std.proofs.Common.{◌≡◌, ℕ, suc, ◌-◌, ◌^◌, ◌<◌, ◌≤◌, ◌⊎◌, List, [], ◌∷◌, slice_index, Ok, sym, refl, ap, ◌∙◌}
use Rattle.std.proofs.Common.{inl, inr, ⊎_elim, arith}
use Rattle.std.proofs.lemmas.Bool.{cases_eq}
use Rattle.std.proofs.lemmas.Bool.Decides.{nat_tests}
use Rattle.fields.proofs.Widths.{legal-small}
use Rattle.table.specs.Table.{fixed, row_offset, row_in, row_of}
use Rattle.table.specs.Slots.{Direct, slot_bits_in, slot_at}
use Rattle.table.specs.Sizes.{direct_header}
use Rattle.table.specs.Capacity.{capacity}
use Rattle.table.proofs.Rows.{row-lo, row_up, row-mono, row-29, heap-rows}
use Rattle.table_laws.proofs.Format.{slot-least, fixed-slot, slot-fixed}
use Rattle.planner.specs.declared.State.{State}
use Rattle.plan.specs.declared.ManagedPlan.{ManagedPlan}
use Rattle.planner.specs.Steps.{initial, block_end, run_from, run, plan_starts}
use Rattle.plan.specs.End.{one_block, end_state, rows_of_root}
use Rattle.plan.specs.Answer.{bare_totals, row_totals, totals, planned_for}
use Rattle.planner.proofs.Stepping.{start-zero}
use Rattle.plan.proofs.Room.{no_rows, rows_of_end}
use Rattle.plan.specs.Plans.{FewestRows, OneBlock}
use Rattle.plan.proofs.Answering.{Went, accepted}
use Rattle.plan.proofs.Laying.{filled_to, Blocks, blocks, still-ok, starts-some, ran-ok, ran-laid}

-- ---- the totals of a state

module _ (w : ℕ) (s : State) where
  totals-bare : block_end s ≡ 1024 → totals fixed w s ≡ bare_totals fixed w s
  totals-bare h = grind (arith, nat_tests, no_rows (block_end s) h)

  totals-rows : (n : ℕ) → rows_of_root fixed (block_end s) ≡ suc n → totals fixed w s ≡ row_totals fixed w s (suc n)
  totals-rows n e = grind (arith, nat_tests)

-- ---- the two shapes of a root

-- the one block at 0 is the root
pub record Bare (w : ℕ) (xs : List ℕ) (p : ManagedPlan) (s : State) : Type 0 where
  pub rows : p.root_rows ≡ 0
  pub managed : p.managed_space ≡ 1024
  pub free : p.free_space ≡ 1024 - direct_header fixed w - s.used
  pub iterator : p.allocation_iterator ≡ 0
  pub blocks : plan_starts fixed w xs ≡ 0 ∷ []
  pub inside : filled_to s ≤ 1024

-- the root has rows
pub record Rowed (w : ℕ) (xs : List ℕ) (p : ManagedPlan) (s : State) : Type 0 where
  pub n : ℕ
  pub rows : p.root_rows ≡ suc n
  pub managed : p.managed_space ≡ row_offset fixed (suc n)
  pub free : p.free_space ≡ capacity fixed (direct_header fixed w) (suc n) - s.used
  pub fewest : FewestRows w xs p
  pub other : p.allocation_iterator ≡ 1024 → ⊥
  pub heap : row_offset fixed (suc n) ≤ 2 ^ 40
  pub inside : filled_to s ≤ row_offset fixed (suc n)

-- ---- no objects

-- nothing ran
empty-state : (w : ℕ) (s : State) → run fixed w [] ≡ Ok s → initial fixed w ≡ s
unfolding run_from
empty-state w s e = cc

closed_none : (w : ℕ) → end_state fixed w (initial fixed w) ≡ one_block fixed w
closed_none w = refl

pub starts_none : (w : ℕ) → plan_starts fixed w [] ≡ 0 ∷ []
starts_none w = refl

shape-none : (w : ℕ) (p : ManagedPlan) → w ≤ 8 → (went : Went w [] p) → Bare w [] p went.state
shape-none w p l went =
    grind (
      arith,
      empty-state w went.state went.ran,
      closed_none w,
      starts_none w,
      totals-bare w (one_block fixed w),
    )

-- ---- some objects

module _ (w x : ℕ) (xs : List ℕ) (p : ManagedPlan) (s : State) (ran : run fixed w (x ∷ xs) ≡ Ok s)
    (is : p ≡ totals fixed w (end_state fixed w s)) where
  placed : Blocks fixed w (plan_starts fixed w (x ∷ xs)) s
  placed = rw (starts-some w (x ∷ xs) (omega arith)) (blocks (ran-laid w (x ∷ xs) s ran))

  -- some block is placed, so the totals are those of the last state
  totals-some : p ≡ totals fixed w s
  totals-some = grind (arith, nat_tests, placed.counted)

  least : 1024 ≤ s.size
  least = slot-least fixed (omega arith) placed.block.slot

  some-bare : block_end s ≡ 1024 → Bare w (x ∷ xs) p s
  some-bare h = grind (arith, totals-some, totals-bare w s h, least, placed.block.full, placed.only)

  some-rows : (block_end s ≡ 1024 → ⊥) → Rowed w (x ∷ xs) p s
  some-rows h =
      let l = least in
      let full = placed.block.full in
      let heap = (still-ok (ran-ok w) (ran-laid w (x ∷ xs) s ran)).heap in
      let m = block_end s - 1 in
      let n = row_of fixed m in
      let n29 = row-29 m (omega arith) in
      let lo = row-lo fixed m in
      let up = row_up fixed m (heap-rows fixed m (omega arith)) in
      let e = totals-some ∙ totals-rows w s n (rows_of_end (block_end s) h (omega arith) heap) in
      let rows : p.root_rows ≡ suc n = ap (λ (y : ManagedPlan). y.root_rows) e in
      let iterator : p.allocation_iterator ≡ block_end s = ap (λ (y : ManagedPlan). y.allocation_iterator) e in
      record {
        n = n;
        rows = rows;
        managed = ap (λ (y : ManagedPlan). y.managed_space) e;
        free = ap (λ (y : ManagedPlan). y.free_space) e;
        fewest = record {
          n = placed.n;
          is_last = omega (arith, placed.many);
          size = s.size;
          slot = rw placed.last (slot-fixed placed.block.slot);
          iterator_at_end = omega (arith, placed.last);
          rows_reach = grind arith;
          fewer_do_not = λ j k. omega (arith, row-mono fixed j n (omega arith));
        };
        other = λ z. h (sym iterator ∙ z);
        heap = row-mono fixed (suc n) 29 n29;
        inside = omega arith;
      }

  shape-some : Bare w (x ∷ xs) p s ⊎ Rowed w (x ∷ xs) p s
  shape-some = ⊎_elim (λ h. inl (some-bare h)) (λ h. inr (some-rows h)) (cases_eq (block_end s) 1024)

-- every accepted plan has one of the two
pub shape : (w : ℕ) (xs : List ℕ) (p : ManagedPlan) → w ≤ 8 → (G : Went w xs p)
    → Bare w xs p G.state ⊎ Rowed w xs p G.state
shape w [] p l G = inl (shape-none w p l G)
shape w (x ∷ xs) p l G = shape-some w x xs p G.state G.ran G.totals_is

-- ---- the root of an accepted plan

slot-zero : (slot_at fixed 0).size ≡ 1024
unfolding slot_bits_in row_in
slot-zero = refl

first_slot : Direct fixed 29 0 1024
first_slot =
    slot-fixed (record { starts = start-zero fixed (omega arith); inside = omega arith; size_is = sym slot-zero })

module _ (xs : List ℕ) (o b w : ℕ) (p : ManagedPlan) (e : planned_for xs o b w ≡ Ok p) where
  shaped : Bare w xs p (accepted xs o b w p e).1.state ⊎ Rowed w xs p (accepted xs o b w p e).1.state
  shaped = shape w xs p (legal-small w (accepted xs o b w p e).0.width) (accepted xs o b w p e).1

  -- where the root has rows, they are the fewest that reach the last block's end
  pub root-rows-fewest : 0 < p.root_rows → FewestRows w xs p
  root-rows-fewest l = ⊎_elim (λ B. absurd (omega (arith, B.rows))) (λ R. R.fewest) shaped

  -- a root without rows is the one placed block, of 1,024 bytes at 0
  pub no-root-rows : p.root_rows ≡ 0 → OneBlock w xs p
  no-root-rows z =
      ⊎_elim
      (λ B. record { blocks = B.blocks; slot = first_slot; managed = B.managed; iterator = B.iterator })
      (λ R. absurd (omega (arith, R.rows)))
      shaped

  -- and where that is the one placed block, the root has no rows
  pub one-block : plan_starts fixed w xs ≡ 0 ∷ [] → p.root_rows ≡ 0
  one-block q = ⊎_elim (λ B. B.rows) (λ R. absurd (R.other (ends R.fewest))) shaped
    where
      ends : FewestRows w xs p → p.allocation_iterator ≡ 1024
      ends F =
          let n : F.n ≡ 0 = grind (arith, F.is_last) in
          let at : slice_index (plan_starts fixed w xs) F.n ≡ 0 = rw (q, n) refl in
          let size = (fixed-slot (rw at at F.slot)).size_is in
          grind (arith, F.iterator_at_end, slot-zero)
