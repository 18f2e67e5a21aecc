-- The law of `ends_are_cut`.
use Rattle.checked_reading.proofs.Passing.{ends-cut}
use Rattle.checked_reading.proofs.laws.ends_are_cut.Goals as goal

pub returns : goal.returns
returns c = ends-cut
