-- What the reads of fields are reported by.
use Rattle.std.specs.Prelude.{ℕ, Result}
use Rattle.refusals.specs.Refusals.{answer, report_of}
use Rattle.refusals.specs.declared.answer.Answer.{Answer}
use Rattle.refusals.specs.declared.FormatError.{FormatError}

-- a number that is read is the first value
abbrev pub number_report : (result : Result ℕ FormatError) → Answer
number_report = report_of (λ n. answer 0 n 0)
