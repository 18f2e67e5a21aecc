-- What is left of `count_slots`: the fixed table has no more than eight levels and seven sizes.
use Rattle.std.proofs.Common.{◌≡◌, ◌-◌, ◌<◌, sym, subst, arith}
use Rattle.std.specs.Prelude.{IfOk}
use Rattle.table.specs.Table.{Table, row_offset, max_rows}
use Rattle.slot_walk.specs.Blocks.{IsNested}
use Rattle.slot_walk.specs.HeapOrder.{bytes_of}
use Rattle.slot_walk.specs.Laws.{FormatCounts}
use Rattle.slot_walk.proofs.Levels.{eight-enough}
use Rattle.slot_walk.proofs.counting.count_slots.Goals as goal

pub count_slots_in-requires : goal.count_slots_in-requires
count_slots_in-requires c =
    let table = c.fixed.ensures.table in
    let levels = subst (λ (t : Table). IsNested t 8 (max_rows t)) (sym table) eight-enough in
    let room = subst (λ (t : Table). t.direct_bits - t.start_bits < 7) (sym table) (omega arith) in
    (omega arith, (c.fixed.ensures.permitted, (levels, room)))

pub returns-clause-formats : goal.returns-clause-formats
returns-clause-formats c =
    subst (λ (t : Table). IfOk c.count_slots_in.result (FormatCounts t 7 c.args.rows)) c.fixed.ensures.table
    c.count_slots_in.ensures.formats

pub returns-clause-fill : goal.returns-clause-fill
returns-clause-fill c =
    subst
    (λ (t : Table). IfOk c.count_slots_in.result (λ counts. bytes_of t.start_bits counts ≡ row_offset t c.args.rows))
    c.fixed.ensures.table c.count_slots_in.ensures.fill

pub returns-clause-levels : goal.returns-clause-levels
returns-clause-levels c = eight-enough
