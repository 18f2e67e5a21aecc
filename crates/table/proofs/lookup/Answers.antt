-- What is left of `lookup`: the row begins at or before the offset, and the row's blocks are counted.
use Rattle.std.proofs.Common.{ap, arith}
use Rattle.table.specs.Table.{fixed, row_offset}
use Rattle.table.proofs.Rows.{row-29, row-lo, place_is}
use Rattle.table.proofs.lookup.Goals as goal

pub overflow_sub-result : goal.overflow_sub-result
overflow_sub-result c = omega (arith, ap (row_offset fixed) c.row_of-row.ensures.row, row-lo fixed c.args.offset)

pub returns : goal.returns
returns c = record {
  place = place_is _ c.row_of-row.ensures.row c.row_offset.ensures c.row_block_size.ensures;
  of_root = omega (arith, c.row_of-row.ensures.row, row-29 c.args.offset c.requires);
}
