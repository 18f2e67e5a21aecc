-- What is left of `heap_ends_where_none_fits`: the theorem.
use Rattle.plan.proofs.Kept.{none-fits}
use Rattle.plan.proofs.laws.heap_ends_where_none_fits.Goals as goal

pub returns : goal.returns
returns c = none-fits
