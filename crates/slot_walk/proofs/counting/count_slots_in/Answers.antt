-- What is left of `count_slots_in`: what the walk through the rows counts is the count over the list of slots,
-- and so that of the format.
use Rattle.std.proofs.Common.{sym, ◌∙◌, arith}
use Rattle.slot_walk.proofs.Tallying.{count-from_0, counted, counts-format, counts-span}
use Rattle.slot_walk.proofs.counting.count_slots_in.Goals as goal

pub count_block-requires-clause-block : goal.count_block-requires-clause-block
count_block-requires-clause-block g c =
    count-from_0 c.requires.table.table _ (sym c.in-Some.is ∙ c.heap_rows_end.ensures) _ _ c.requires.levels
    c.requires.places

pub returns : goal.returns
returns g c =
    let T = c.requires.table.table in
    let counts = counted T c.args.rows (sym c.in-Some.is ∙ c.heap_rows_end.ensures) g.row.N c.count_block.ensures in
    record {
      counts = counts;
      formats = counts-format T c.args.rows g.row.N counts;
      fill = counts-span T c.args.rows g.row.N counts (omega (arith, c.requires.places, T.start_in_direct));
    }
