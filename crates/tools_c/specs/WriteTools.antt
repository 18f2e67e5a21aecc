-- What the C functions over planning and writing answer.
use Rattle.std.specs.Prelude.{ℕ, List, length, Result}
use Rattle.refusals.specs.declared.FormatError.{FormatError}
use Rattle.plan.specs.declared.ManagedPlan.{ManagedPlan}
use Rattle.plan.specs.Answer.{planned_for}
use Rattle.region_blocks.specs.declared.Site.{Site}
use Rattle.fractal_heap_write.specs.Answer.{serialized_for}
use Rattle.fractal_heap_write.specs.Serialize.{lent_for}

-- planning, for these sizes, both lists as they are lent, and the width of addresses
abbrev pub plan_answer : (sizes offsets blocks : List ℕ) (offset_size : ℕ)
    → Result ManagedPlan FormatError
plan_answer sizes offsets blocks offset_size =
    planned_for sizes (length offsets) (length blocks) offset_size

-- writing, for these sizes and joined bytes, all as it is lent, and the site
abbrev pub write_answer : (sizes objects offsets blocks region : List ℕ) (site : Site)
    → Result ManagedPlan FormatError
write_answer sizes objects offsets blocks region site =
    serialized_for sizes (lent_for offsets blocks objects region) site
