-- The writer's answer: planning's, then that of its own tests.
use Rattle.std.specs.Prelude.{ℕ, ◌≡◌, List, Result, Ok}
use Rattle.refusals.specs.Steps.{◌>>=◌}
use Rattle.refusals.specs.declared.FormatError.{FormatError}
use Rattle.numbers.specs.Sums.{sum}
use Rattle.plan.specs.declared.ManagedPlan.{ManagedPlan}
use Rattle.plan.specs.Answer.{planned_for}
use Rattle.region_blocks.specs.declared.Site.{Site}
use Rattle.fractal_heap_write.specs.declared.checks.Lent.{Lent}
use Rattle.fractal_heap_write.specs.Checks.{Fit, output_checked}

-- the answer for these sizes, what is lent and the site: planning's refusals, then those of writing
abbrev pub serialized_for : (sizes : List ℕ) (lent : Lent) (site : Site)
    → Result ManagedPlan FormatError
serialized_for sizes lent site = do
  plan ← planned_for sizes lent.offset_places lent.block_places site.offset_size
  _ ← output_checked site lent (sum sizes) plan.region_size
  Ok plan

-- this is the plan of these sizes, and passed the tests
pub record Accepted (sizes : List ℕ) (lent : Lent) (site : Site) (plan : ManagedPlan)
    : Type 0 where
  pub planned : planned_for sizes lent.offset_places lent.block_places site.offset_size ≡ Ok plan
  pub fit : Fit site lent (sum sizes) plan.region_size
