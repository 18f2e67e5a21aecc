-- What is left of `counts_fill_the_rows`: the law.
use Rattle.slot_walk.proofs.Counts.{counts-fill}
use Rattle.slot_walk.proofs.laws.counts_fill_the_rows.Goals as goal

pub returns : goal.returns
returns c = counts-fill
