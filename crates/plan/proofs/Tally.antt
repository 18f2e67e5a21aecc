-- How many offsets and blocks a plan has, and how large its blocks are together.
use Rattle.std.proofs.Common.{◌≡◌, ℕ, suc, ◌+◌, ◌⊎◌, List, [], ◌∷◌, length, Ok, refl, ap, arith}
use Rattle.std.proofs.lemmas.Bool.Decides.{nat_tests}
use Rattle.table.specs.Table.{fixed, row_in}
use Rattle.table.specs.Slots.{slot_bits_in}
use Rattle.planner.specs.declared.State.{State}
use Rattle.plan.specs.declared.ManagedPlan.{ManagedPlan}
use Rattle.planner.specs.Steps.{run, run_from, plan_starts}
use Rattle.plan.specs.End.{end_state}
use Rattle.plan.specs.Answer.{totals, planned_for}
use Rattle.plan.proofs.Answering.{accepted}
use Rattle.plan.specs.Plans.{sizes_at, Tallied}
use Rattle.plan.proofs.Laying.{Laid, end, same, new, count-starts, blocks, starts-some, ran-laid}
use Rattle.plan.proofs.Root.{no-root-rows}

offsets-laid : {w : ℕ} {s s' : State} {xs os bs : List ℕ} → Laid fixed w s xs os bs s' → length os ≡ length xs
offsets-laid end = refl
offsets-laid (same P n L) = ap suc (offsets-laid L)
offsets-laid (new P n L) = ap suc (offsets-laid L)

allocated-laid : {w : ℕ} {s s' : State} {xs os bs : List ℕ} → Laid fixed w s xs os bs s'
    → s'.allocated ≡ s.allocated + sizes_at fixed bs
unfolding sizes_at
allocated-laid {s = s} end = omega arith
allocated-laid (same P n L) = omega (arith, allocated-laid L, n.allocated-is)
allocated-laid (new P n L) = omega (arith, allocated-laid L, n.allocated-is, n.size_is)

-- the state at the end counts the placed blocks and their sizes
pub record Counted (w : ℕ) (xs : List ℕ) (s : State) : Type 0 where
  pub count_is : s.count ≡ length (plan_starts fixed w xs)
  pub sizes_are : s.allocated ≡ sizes_at fixed (plan_starts fixed w xs)

one_size : sizes_at fixed (0 ∷ []) ≡ 1024
unfolding sizes_at slot_bits_in row_in
one_size = refl

pub counted : (w : ℕ) (xs : List ℕ) (s : State) → run fixed w xs ≡ Ok s → Counted w xs (end_state fixed w s)
unfolding run_from
counted w [] s e = grind (arith, nat_tests, one_size)
counted w (x ∷ xs) s e =
    let L = ran-laid w (x ∷ xs) s e in
    grind (
      arith,
      nat_tests,
      (blocks L).counted,
      starts-some w (x ∷ xs),
      count-starts L,
      allocated-laid L,
    )

-- the totals of a root of some rows, and of none
totals-count : (w : ℕ) (s : State)
    → (((totals fixed w s).root_rows ≡ 0) × ((totals fixed w s).block_count ≡ 1)
    × ((totals fixed w s).allocated_space ≡ 1024))
    ⊎ (((totals fixed w s).block_count ≡ s.count) × ((totals fixed w s).allocated_space ≡ s.allocated))
totals-count w s = grind (arith, nat_tests)

-- every object has an offset; the block count and the allocated space are those of the placed blocks
pub tallied : (xs : List ℕ) (o b w : ℕ) (p : ManagedPlan) → planned_for xs o b w ≡ Ok p → Tallied xs w p
tallied xs o b w p e =
    let went = (accepted xs o b w p e).1 in
    grind (
      arith,
      offsets-laid (ran-laid w xs went.state went.ran),
      counted w xs went.state went.ran,
      totals-count w (end_state fixed w went.state),
      λ (z : p.root_rows ≡ 0). (no-root-rows xs o b w p e z).blocks,
      one_size,
    )
