-- What is left of `additions_are_planned`.
use Rattle.open_plan.proofs.Planned.{additions-planned}
use Rattle.open_plan.proofs.additions_are_planned.Goals as goal

pub returns : goal.returns
returns c = additions-planned
