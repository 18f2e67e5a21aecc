-- What the C functions over stores report.
use Rattle.std.specs.Prelude.{ℕ}
use Rattle.refusals.specs.Refusals.{test_report}
use Rattle.refusals.specs.declared.answer.Answer.{Answer}
use Rattle.fields.specs.Stores.{store_ensured}

-- an address of this width stored at a place of so many lent bytes: 0 and two zeros, or the refusal
abbrev pub store_report : (lent place width : ℕ) → Answer
store_report lent place width = test_report (store_ensured lent place width)
