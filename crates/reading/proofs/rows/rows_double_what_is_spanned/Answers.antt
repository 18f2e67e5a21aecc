-- What is left of `rows_double_what_is_spanned`: the law.
use Rattle.reading.proofs.RowSizes.{heap-size}
use Rattle.reading.proofs.rows.rows_double_what_is_spanned.Goals as goal

pub returns : goal.returns
returns c = heap-size
