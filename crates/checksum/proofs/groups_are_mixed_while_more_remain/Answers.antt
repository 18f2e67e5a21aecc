-- What is left of `groups_are_mixed_while_more_remain`: the law.
use Rattle.checksum.proofs.Laws.{mixed-while-more}
use Rattle.checksum.proofs.groups_are_mixed_while_more_remain.Goals as goal

pub returns : goal.returns
returns c = mixed-while-more
