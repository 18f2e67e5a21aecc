-- What is left of `tails_are_added_as_words`: the law.
use Rattle.checksum.proofs.Laws.{tails-switched}
use Rattle.checksum.proofs.tails_are_added_as_words.Goals as goal

pub returns : goal.returns
returns c = tails-switched
