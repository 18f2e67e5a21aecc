-- The law of `worked_reads_hold`.
use Rattle.checked_reading.proofs.Worked.{worked}
use Rattle.checked_reading.proofs.laws.worked_reads_hold.Goals as goal

pub returns : goal.returns
returns c = worked
