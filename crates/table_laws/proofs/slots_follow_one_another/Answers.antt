-- What is left of `slots_follow_one_another`: the law.
use Rattle.table_laws.proofs.Laws.{slots-ordered}
use Rattle.table_laws.proofs.slots_follow_one_another.Goals as goal

pub returns : goal.returns
returns c = slots-ordered
