-- The indirect blocks of a plan's region are as long as the plan says, and lead to all of its direct blocks.
use Rattle.std.proofs.Common.{inl, inr, ℕ, ◌+◌, ◌≤◌, ◌<◌, ◌≡◌, refl, sym, ap, ◌∙◌, subst, List, [], ◌∷◌, arith}
use Rattle.std.proofs.Common.{zero-add, Ok}
use Rattle.std.proofs.lemmas.Bool.{cases_eq}
use Rattle.std.proofs.lemmas.Bool.Decides.{nat_tests}
use Rattle.table.specs.Table.{Table, fixed, row_offset}
use Rattle.table.specs.Sizes.{indirect_size}
use Rattle.table_laws.proofs.Format.{slot-least}
use Rattle.planner.specs.declared.State.{State}
use Rattle.plan.specs.declared.ManagedPlan.{ManagedPlan}
use Rattle.planner.specs.Steps.{initial, block_end, run, plan_offsets, plan_starts}
use Rattle.plan.specs.End.{end_state, rows_of_root}
use Rattle.plan.specs.Answer.{bare_totals, row_totals, totals, planned_for}
use Rattle.plan.proofs.Answering.{accepted}
use Rattle.plan.proofs.Room.{Reach, reach, no_rows}
use Rattle.plan.proofs.Laying.{Laid, end, same, new, blocks, still-ok, starts-some, ran-ok, ran-laid}
use Rattle.plan.proofs.Root.{no-root-rows, one-block, starts_none}
use Rattle.plan.proofs.Tally.{tallied}
use Rattle.region_write.specs.Planned.{IndirectPlanned, BareRegion}
use Rattle.region_write.proofs.Starts.{Placed, none, more, last_end}
use Rattle.region_write.proofs.Counting.{opened_by, whole}

-- ---- the blocks that planning places

module _ {t : Table} {w : ℕ} where
  laid-placed : {s s' : State} {xs os bs : List ℕ} → Laid t w s xs os bs s' → Placed t (block_end s) bs
  laid-placed end = none
  laid-placed {s} (same {s₁ = s₁} {bs = bs} P n L) =
      let a = n.start_is in
      let b = n.size_is in
      subst (λ (y : ℕ). Placed t y bs) (let z : block_end s₁ ≡ block_end s = omega arith in z) (laid-placed L)
  laid-placed (new {s₁ = s₁} {bs = bs} P n L) =
      more n.after (record { starts = n.starts; inside = n.inside; size_is = refl })
      (subst (λ (y : ℕ). Placed t (s₁.start + y) bs) n.size_is (laid-placed L))

  -- the last block's end
  laid_end : {s s' : State} {xs os bs : List ℕ} → Laid t w s xs os bs s' → last_end t (block_end s) bs ≡ block_end s'
  unfolding last_end
  laid_end end = refl
  laid_end (same P n L) = grind (arith, laid_end L, n.start_is, n.size_is)
  laid_end (new P n L) = grind (arith, laid_end L, n.size_is)

  -- the bytes of the indirect blocks add up
  laid-opened : {s s' : State} {xs os bs : List ℕ} → Laid t w s xs os bs s'
      → s'.indirect ≡ s.indirect + opened_by t w (block_end s) bs
  unfolding opened_by
  laid-opened {s} end = omega arith
  laid-opened (same P n L) = grind (arith, laid-opened L, n.start_is, n.size_is, n.indirect-is)
  laid-opened (new P n L) = grind (arith, laid-opened L, n.size_is, n.indirect-is)

-- ---- the totals

totals-bare : (w : ℕ) (s : State) → rows_of_root fixed (block_end s) ≡ 0 → totals fixed w s ≡ bare_totals fixed w s
totals-bare w s bare = grind (arith, nat_tests)

totals-rows : (w : ℕ) (s : State) → (rows_of_root fixed (block_end s) ≡ 0 → ⊥)
    → totals fixed w s ≡ row_totals fixed w s (rows_of_root fixed (block_end s))
totals-rows w s some = grind (arith, nat_tests)

-- no rows mean the totals of a bare root
bare-totals : (w : ℕ) (p : ManagedPlan) (s : State) → p ≡ totals fixed w s → p.root_rows ≡ 0 → p ≡ bare_totals fixed w s
bare-totals w p s is bare =
    elim (cases_eq (rows_of_root fixed (block_end s)) 0) [
      | inl e ↦ is ∙ totals-bare w s e
      | inr some ↦ absurd (some (sym (ap (λ y. y.root_rows) (is ∙ totals-rows w s some)) ∙ bare))
    ]

-- a plan whose root has rows: they reach the last of its blocks
pub record RootRowed (w : ℕ) (xs : List ℕ) (p : ManagedPlan) : Type 0 where
  pub state : State
  pub totals-are : p ≡ row_totals fixed w state p.root_rows
  pub few : p.root_rows ≤ 29
  pub placed : Placed fixed 0 (plan_starts fixed w xs)
  pub reaches : last_end fixed 0 (plan_starts fixed w xs) ≤ row_offset fixed p.root_rows
  pub opened : state.indirect ≡ opened_by fixed w 0 (plan_starts fixed w xs)

module _ (w x : ℕ) (xs : List ℕ) (p : ManagedPlan) (s : State) (ran : run fixed w (x ∷ xs) ≡ Ok s)
    (is : p ≡ totals fixed w (end_state fixed w s)) (some : 0 < p.root_rows) where
  laid-all : Laid fixed w (initial fixed w) (x ∷ xs) (plan_offsets fixed w (x ∷ xs)) (plan_starts fixed w (x ∷ xs)) s
  laid-all =
      subst (λ (bs : List ℕ). Laid fixed w (initial fixed w) (x ∷ xs) (plan_offsets fixed w (x ∷ xs)) bs s)
      (sym (starts-some w (x ∷ xs) (omega arith))) (ran-laid w (x ∷ xs) s ran)

  is-closed : end_state fixed w s ≡ s
  is-closed = grind (arith, nat_tests, (blocks laid-all).counted)

  rows-reach : rows_of_root fixed (block_end s) ≡ p.root_rows → Reach (block_end s)
  rows-reach n =
      let l = slot-least fixed (omega arith) (blocks laid-all).block.slot in
      reach (block_end s) (omega arith) (still-ok (ran-ok w) laid-all).heap
      (λ z. omega (arith, no_rows (block_end s) z))

  rooted-some : RootRowed w (x ∷ xs) p
  rooted-some =
      let are : p ≡ totals fixed w s = is ∙ ap (totals fixed w) is-closed in
      let q = are
      ∙ totals-rows w s (λ bare. omega (arith, ap (λ (y : ManagedPlan). y.root_rows) (are ∙ totals-bare w s bare))) in
      let n : rows_of_root fixed (block_end s) ≡ p.root_rows = sym (ap (λ y. y.root_rows) q) in
      let R = rows-reach n in
      let reached = ap (row_offset fixed) n in
      record {
        state = s;
        totals-are = q ∙ ap (row_totals fixed w s) n;
        few = omega (arith, R.most);
        placed = laid-placed laid-all;
        reaches = omega (arith, R.far, laid_end laid-all);
        opened = laid-opened laid-all ∙ zero-add _;
      }

pub rooted : (xs : List ℕ) (o b w : ℕ) (p : ManagedPlan) → planned_for xs o b w ≡ Ok p → 0 < p.root_rows
    → RootRowed w xs p
rooted [] o b w p e l = absurd (let z = one-block [] o b w p e (starts_none w) in omega arith)
rooted (x ∷ xs) o b w p e l = let G = (accepted (x ∷ xs) o b w p e).1 in
    rooted-some w x xs p G.state G.ran G.totals_is l

-- ---- the theorems

module _ (xs : List ℕ) (o b w : ℕ) (p : ManagedPlan) (e : planned_for xs o b w ≡ Ok p) where
  -- the root's place is the length of the indirect blocks before it
  pub indirect-planned : 0 < p.root_rows → (header first directs : ℕ) → IndirectPlanned w xs p header first directs
  indirect-planned l header first directs =
      let R = rooted xs o b w p e l in
      let f = R.few in
      let i : opened_by fixed w 0 (plan_starts fixed w xs) ≡ p.root_place =
      sym (ap (λ (y : ManagedPlan). y.root_place) R.totals-are ∙ R.opened) in
      let W = whole fixed (omega arith) (omega arith) (omega arith) w header p.root_rows
      (plan_starts fixed w xs) first directs (omega arith) R.placed R.reaches in
      record {
        children = W.children-are ∙ i;
        bytes = W.bytes-are ∙ ap (λ (y : ℕ). y + indirect_size fixed w p.root_rows) i;
        next = W.next-is ∙ ap (λ (y : ℕ). directs + y) (sym (tallied xs o b w p e).allocated);
        rest = W.rest-is;
      }

  -- the region is the indirect blocks, the root the last of them, and the direct blocks
  pub region-planned : 0 < p.root_rows
      → p.region_size ≡ p.root_place + indirect_size fixed w p.root_rows + p.allocated_space
  region-planned l =
      let q = (rooted xs o b w p e l).totals-are in
      let r = ap (λ (y : ManagedPlan). y.region_size) q in
      let i = ap (λ (y : ManagedPlan). y.root_place) q in
      let a = ap (λ (y : ManagedPlan). y.allocated_space) q in
      omega arith

  -- or it is the one direct block
  pub bare-planned : p.root_rows ≡ 0 → BareRegion w xs p
  bare-planned z =
      let G = (accepted xs o b w p e).1 in
      let q = bare-totals w p (end_state fixed w G.state) G.totals_is z in
      record {
        blocks = (no-root-rows xs o b w p e z).blocks;
        region = ap (λ (y : ManagedPlan). y.region_size) q;
        allocated = ap (λ (y : ManagedPlan). y.allocated_space) q;
        place = ap (λ (y : ManagedPlan). y.root_place) q;
      }
