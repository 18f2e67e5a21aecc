-- What the C functions for planning and writing hand back: the answer in a list of totals.
use Rattle.std.specs.Prelude.{ℕ, List, length, nat_lt, if◌then◌else◌, Result}
use Rattle.refusals.specs.Refusals.{refusal}
use Rattle.refusals.specs.declared.FormatError.{FormatError}
use Rattle.refusals.specs.declared.FormatError.TheVariants.{SliceTooShort}
use Rattle.plan.specs.Answer.{planned_number, planned_values}
use Rattle.fields.specs.LittleEndian.{put}
use Rattle.plan.specs.declared.ManagedPlan.{ManagedPlan}

-- the list of totals at the end: the plan's numbers in front, or the refusal's pair
abbrev pub planned_totals : (totals : List ℕ) (answer : Result ManagedPlan FormatError) → List ℕ
planned_totals totals answer = put totals 0 (planned_values answer)

-- how many numbers a plan has
abbrev pub total_count : ℕ
total_count = 8

-- a list of totals that is too short for them gives 13 before all else
abbrev pub plan_number : (totals : List ℕ) (answer : Result ManagedPlan FormatError) → ℕ
plan_number totals answer =
    if nat_lt (length totals) total_count
    then (refusal (SliceTooShort total_count (length totals))).number
    else planned_number answer

abbrev pub plan_totals : (totals : List ℕ) (answer : Result ManagedPlan FormatError) → List ℕ
plan_totals totals answer =
    if nat_lt (length totals) total_count then totals else planned_totals totals answer
