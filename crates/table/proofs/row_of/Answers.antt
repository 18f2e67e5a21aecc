-- What is left of `row_of`: past the first row the logarithm of the offset tells its row.
use Rattle.std.proofs.Common.{arith}
use Rattle.table.proofs.Rows.{log_past_first, row_high, row_most}
use Rattle.table.proofs.row_of.Goals as goal

pub overflow_sub-ilog2 : goal.overflow_sub-ilog2
overflow_sub-ilog2 c = log_past_first c.ilog2.result c.args.offset (omega arith) (omega arith)

pub returns : goal.returns
returns c =
    let row = row_high c.ilog2.result c.args.offset (omega arith) (omega arith) (omega arith) (omega arith) in
    record { row = omega (arith, row); of_root = omega (arith, row, row_most c.args.offset c.requires) }
