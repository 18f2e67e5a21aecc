-- What C is told of opening a plan, and of one object more.
use Rattle.std.specs.Prelude.{ℕ, Result}
use Rattle.refusals.specs.Refusals.{answer, report_of, test_report}
use Rattle.refusals.specs.declared.answer.Answer.{Answer}
use Rattle.refusals.specs.declared.FormatError.{FormatError}
use Rattle.planner.specs.declared.State.{State}
use Rattle.plan.specs.Checks.{width_checked}

-- 2, or no values
abbrev pub opening_report : (offset_size : ℕ) → Answer
opening_report offset_size = test_report (width_checked offset_size)

-- the heap offset, or 11, or 12
abbrev pub addition_report : (addition : Result (State × ℕ) FormatError) → Answer
addition_report = report_of (λ placed. answer 0 placed.1 0)
