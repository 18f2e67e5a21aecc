-- The writer's answer, case by case, and what its tests let pass.
use Rattle.std.proofs.Common.{ℕ, ◌*◌, ◌^◌, ◌≤◌, ◌<◌, ◌≡◌, true, List, arith, pow_mono, pow_pos}
use Rattle.std.proofs.Common.{Result, Ok, Err}
use Rattle.std.proofs.lemmas.Grind.{common_steps}
use Rattle.std.proofs.lemmas.Bool.Decides.{nat_tests}
use Rattle.refusals.specs.declared.FormatError.{FormatError}
use Rattle.refusals.specs.declared.FormatError.TheVariants.{InvalidOffsetSize}
use Rattle.fields.specs.Widths.{legal}
use Rattle.fields.proofs.Widths.{legal-small}
use Rattle.fields.specs.Undefined.{undefined_address}
use Rattle.numbers.specs.Sums.{sum}
use Rattle.plan.specs.declared.ManagedPlan.{ManagedPlan}
use Rattle.plan.specs.Answer.{planned_for}
use Rattle.plan.proofs.Answering.{accepted}
use Rattle.plan.proofs.Laying.{used-sum, still-ok, ran-ok, ran-laid}
use Rattle.fractal_heap_write.specs.Checks.{Fit}
use Rattle.fractal_heap_write.specs.Checks.{output_checked}
use Rattle.region_blocks.specs.declared.Site.{Site}
use Rattle.fractal_heap_write.specs.declared.checks.Lent.{Lent}
use Rattle.fractal_heap_write.specs.Answer.{serialized_for}

module _ (xs : List ℕ) (lent : Lent) (site : Site) where
  -- what planning answers
  abbrev asked : Result ManagedPlan FormatError
  asked = planned_for xs lent.offset_places lent.block_places site.offset_size

  -- what is accepted was planned, and passed the tests
  pub written : (p : ManagedPlan) → serialized_for xs lent site ≡ Ok p
      → (asked ≡ Ok p) × (output_checked site lent (sum xs) p.region_size ≡ Ok tt)
  written p e = grind (arith, common_steps)

pub fit : (site : Site) (lent : Lent) (n size : ℕ) → output_checked site lent n size ≡ Ok tt → Fit site lent n size
fit site lent n size e = grind (arith, nat_tests)

-- an address of a legal width has 64 bits
pub below-undefined : (w a : ℕ) → legal w ≡ true → a ≤ undefined_address w → a < 2 ^ 64
below-undefined w a l h =
    let n = legal-small w l in
    let m : 2 ^ (8 * w) ≤ 2 ^ 64 = pow_mono {i = 8 * w} {j = 64} (omega arith) in
    let some = pow_pos (8 * w) in
    omega arith

-- the sizes of a plan add up to less than the heap space
pub planned_sum : (xs : List ℕ) (o b w : ℕ) (p : ManagedPlan) → planned_for xs o b w ≡ Ok p → sum xs ≤ 2 ^ 40
planned_sum xs o b w p e =
    let G = (accepted xs o b w p e).1 in
    let L = ran-laid w xs G.state G.ran in
    let I = still-ok (ran-ok w) L in
    omega (arith, used-sum L, I.heap, I.taken, I.spent)

-- another width than 2, 4 and 8 is refused first
pub width-refused : (xs : List ℕ) (o b w : ℕ) → (legal w ≡ true → ⊥) → planned_for xs o b w ≡ Err (InvalidOffsetSize w)
unfolding planned_for
width-refused xs o b w h = grind (arith, common_steps)

pub ruleset planning = (planned_sum, width-refused)
