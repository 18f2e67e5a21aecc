-- The law of `worked_cases_hold`.
use Rattle.worked.proofs.Worked.{worked}
use Rattle.worked.proofs.worked_cases_hold.Goals as goal

pub returns : goal.returns
returns c = worked
