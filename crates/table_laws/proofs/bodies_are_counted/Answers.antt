-- What is left of `bodies_are_counted`: the law.
use Rattle.table_laws.proofs.Laws.{bodies-held}
use Rattle.table_laws.proofs.bodies_are_counted.Goals as goal

pub returns : goal.returns
returns c = bodies-held
