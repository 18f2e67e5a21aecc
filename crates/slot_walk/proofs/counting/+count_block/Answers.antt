-- What is left of the count: the laws of its rows and slots.
use Rattle.std.proofs.Common.{ℕ, refl, arith}
use Rattle.slot_walk.specs.Geometry.{table_of}
use Rattle.slot_walk.proofs.Numbers.{deep, shallow, in_words}
use Rattle.slot_walk.proofs.Tallying.{Cols, rows_start, cols_start, next_fits, place_fits, cols_end, slot_asked}
use Rattle.slot_walk.proofs.Tallying.{rows_done, cols_more, block-counted, block-asked, direct_start, row-bits}
use Rattle.slot_walk.proofs.Tallying.{row-place, slots-fit, one-slot, cols_over}
use Rattle.slot_walk.proofs.counting.+count_block.Goals as goal
use Rattle.slot_walk.proofs.counting.+count_block.Goals.{then-size-geometry+else-indirect-test}
use Rattle.slot_walk.proofs.counting.+count_block.Goals.{else-size-geometry+else-direct-test}

pub rows-init : goal.rows-init
rows-init t c = rows_start c.requires.table.start c.requires.block

pub indirect-init : goal.indirect-init
indirect-init t c = cols_start c.requires.table.width c.rows-test.true

pub overflow_sub-levels : goal.overflow_sub-levels
overflow_sub-levels t c =
    let p = c.requires.table in
    let asked = slot_asked c.rows.invariant c.indirect.invariant c.indirect-test.true in
    (block-asked p.table.start_in_direct p.table.row_in_indirect (deep p _ c.if-size-geometry.true) asked).0

pub overflow_add-here : goal.overflow_add-here
overflow_add-here t c =
    let asked = slot_asked c.rows.invariant c.indirect.invariant c.indirect-test.true in
    omega (arith, asked.slot.in_heap, in_words c.requires.table)

pub count_block-requires : goal.count_block-requires
count_block-requires t c =
    let p = c.requires.table in
    let asked = slot_asked c.rows.invariant c.indirect.invariant c.indirect-test.true in
    let inside =
    block-asked p.table.start_in_direct p.table.row_in_indirect (deep p _ c.if-size-geometry.true) asked in
    (omega (arith, inside.0, c.decreases), (p, inside.1))

pub overflow_add-here-in-indirect : goal.overflow_add-here-in-indirect
overflow_add-here-in-indirect t c =
    let asked = slot_asked c.rows.invariant c.indirect.invariant c.indirect-test.true in
    omega (arith, asked.slot.in_heap, in_words c.requires.table)

pub indirect-preserved : goal.indirect-preserved
indirect-preserved t c =
    let p = c.requires.table.table in
    let g = p.start_in_direct in
    let w = p.row_in_indirect in
    let counted = block-counted g w (deep c.requires.table _ c.if-size-geometry.true) c.count_block.ensures in
    cols_more g w c.indirect.invariant c.indirect-test.true counted

pub direct-init : goal.direct-init
direct-init t c = direct_start _ c.requires.table.width c.rows-test.true

pub overflow_add-slots : goal.overflow_add-slots
overflow_add-slots t c =
    let small = shallow c.requires.table _ c.if-size-geometry.false in
    omega (arith, slots-fit c.rows.invariant small c.direct.slots c.direct.invariant, in_words c.requires.table)

pub overflow_add-here-in-direct : goal.overflow_add-here-in-direct
overflow_add-here-in-direct t c =
    let asked = slot_asked c.rows.invariant c.direct.invariant c.direct-test.true in
    omega (arith, asked.slot.in_heap, in_words c.requires.table)

pub direct-preserved : goal.direct-preserved
direct-preserved t c =
    let p = c.requires.table.table in
    let small = shallow c.requires.table _ c.if-size-geometry.false in
    let counted = one-slot c.rows.invariant small c.direct.slots c.direct.invariant c.direct-test.true in
    cols_more p.start_in_direct p.row_in_indirect c.direct.invariant c.direct-test.true counted

pub offset_bounds-counts-place : goal.offset_bounds-counts-place
offset_bounds-counts-place t c =
    let p = c.requires.table in
    omega (arith, row-bits c.rows.invariant (shallow p _ c.if-size-geometry.false), p.direct_in_heap, p.heap)

pub bounds-counts-place : goal.bounds-counts-place
bounds-counts-place t c = row-place c.rows.invariant (shallow c.requires.table _ c.if-size-geometry.false)

pub overflow_add-counts : goal.overflow_add-counts
overflow_add-counts t c =
    let small = shallow c.requires.table _ c.if-size-geometry.false in
    omega (arith, slots-fit c.rows.invariant small c.direct.slots c.direct.invariant, in_words c.requires.table)

pub bounds-counts-place-else-size-geometry : goal.bounds-counts-place-else-size-geometry
bounds-counts-place-else-size-geometry t c =
    row-place c.rows.invariant (shallow c.requires.table _ c.if-size-geometry.false)

-- the row is over, be its slots indirect or direct
over : (t : ℕ) (c : goal.Joined-size-geometry t)
    → Cols (table_of c.args.geometry.now) c.rows.counts c.if-size-geometry.counts c.args.levels c.args.at c.args.end
    c.rows.here c.if-size-geometry.here c.rows.size c.rows.next 0
over t c =
    elim c.if-size-geometry.branch [
      | then-size-geometry+else-indirect-test w ↦
          cols_over w.indirect.invariant w.indirect-test.false w.counts-is w.here-is
      | else-size-geometry+else-direct-test w ↦
          cols_over w.direct.invariant w.direct-test.false w.counts-is w.here-is
    ]

pub overflow_add-next : goal.overflow_add-next
overflow_add-next t c = omega (arith, next_fits c.rows.invariant (over t c), in_words c.requires.table)

pub overflow_add-next_place : goal.overflow_add-next_place
overflow_add-next_place t c = omega (arith, place_fits c.rows.invariant (over t c), c.requires.table.heap)

pub rows-smaller : goal.rows-smaller
rows-smaller t c = let done = cols_end c.rows.invariant (over t c) refl in omega (arith, done.1, done.2)

pub rows-preserved : goal.rows-preserved
rows-preserved t c = (cols_end c.rows.invariant (over t c) refl).0

pub returns : goal.returns
returns t c = rows_done c.rows.invariant c.rows-test.false
