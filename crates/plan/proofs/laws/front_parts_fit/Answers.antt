-- What is left of `front_parts_fit`: the theorem.
use Rattle.plan.proofs.Kept.{front-parts-fit}
use Rattle.plan.proofs.laws.front_parts_fit.Goals as goal

pub returns : goal.returns
returns c = front-parts-fit
