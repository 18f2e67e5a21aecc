-- What is left of `max_direct_rows`: a logarithm is at most 63.
use Rattle.std.proofs.Common.{arith}
use Rattle.numbers.proofs.Log2.{log2-le}
use Rattle.reading.proofs.rows.DoublingTable.max_direct_rows.Goals as goal

pub overflow_add-result : goal.overflow_add-result
overflow_add-result c = omega (arith, log2-le)
