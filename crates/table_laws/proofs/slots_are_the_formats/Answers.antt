-- What is left of `slots_are_the_formats`: the law.
use Rattle.table_laws.proofs.Laws.{slots-of-format}
use Rattle.table_laws.proofs.slots_are_the_formats.Goals as goal

pub returns : goal.returns
returns c = slots-of-format
