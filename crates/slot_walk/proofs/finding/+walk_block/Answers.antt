-- What is left of the walk: the laws of its rows and slots, at what is sought.
use Rattle.std.proofs.Common.{ℕ, ◌∙◌, refl, arith}
use Rattle.slot_walk.specs.Geometry.{table_of}
use Rattle.slot_walk.proofs.Numbers.{deep, shallow, in_words}
use Rattle.slot_walk.proofs.Walking.{InRow, walk_start, row_start, row-end, next_small, slot_in, slot-is-block}
use Rattle.slot_walk.proofs.Searching.{Sought, sought-all, all-passed, found_inside, none_inside, row_in_heap}
use Rattle.slot_walk.proofs.Searching.{row_passed, row_found, row_over}
use Rattle.slot_walk.proofs.finding.+walk_block.Goals as goal
use Rattle.slot_walk.proofs.finding.+walk_block.Goals.{then-size-geometry+else-indirect-test}
use Rattle.slot_walk.proofs.finding.+walk_block.Goals.{else-size-geometry+else-offset-row_end}

pub rows-init : goal.rows-init
rows-init t c = walk_start _ c.requires.table.start c.requires.block (sought-all _ _)

pub indirect-init : goal.indirect-init
indirect-init t c = row_start c.rows.invariant _ c.requires.table.width c.rows-test.true

pub overflow_sub-levels : goal.overflow_sub-levels
overflow_sub-levels t c =
    let p = c.requires.table in
    let slot = slot_in c.indirect.invariant c.indirect-test.true in
    omega (
      arith,
      (slot-is-block p.table.start_in_direct p.table.row_in_indirect (deep p _ c.if-size-geometry.true) slot).0,
    )

pub overflow_add-here : goal.overflow_add-here
overflow_add-here t c =
    let slot = slot_in c.indirect.invariant c.indirect-test.true in
    omega (arith, slot.in_heap, in_words c.requires.table)

pub walk_block-requires : goal.walk_block-requires
walk_block-requires t c =
    let p = c.requires.table in
    let slot = slot_in c.indirect.invariant c.indirect-test.true in
    let inside =
    slot-is-block p.table.start_in_direct p.table.row_in_indirect (deep p _ c.if-size-geometry.true) slot in
    (omega (arith, inside.0, c.decreases), (p, inside.1))

pub returns-in-Some : goal.returns-in-Some
returns-in-Some t c =
    let p = c.requires.table.table in
    found_inside p.start_in_direct p.row_in_indirect c.indirect.invariant c.indirect-test.true
    (deep c.requires.table _ c.if-size-geometry.true) c.walk_block.ensures c.in-Some.is

pub overflow_add-here-in-indirect : goal.overflow_add-here-in-indirect
overflow_add-here-in-indirect t c =
    let slot = slot_in c.indirect.invariant c.indirect-test.true in
    omega (arith, slot.in_heap, in_words c.requires.table)

pub indirect-preserved : goal.indirect-preserved
indirect-preserved t c =
    let p = c.requires.table.table in
    none_inside p.start_in_direct p.row_in_indirect c.indirect.invariant c.indirect-test.true
    (deep c.requires.table _ c.if-size-geometry.true) c.in_default.ensures refl

pub end_of_row-row_end-requires : goal.end_of_row-row_end-requires
end_of_row-row_end-requires t c =
    let p = c.requires.table in
    let inside =
    row_in_heap p.table.start_in_direct p.table.row_in_indirect c.rows.invariant p.width c.rows-test.true in
    omega (arith, inside, in_words p)

pub returns-then-offset-row_end : goal.returns-then-offset-row_end
returns-then-offset-row_end t c =
    let p = c.requires.table in
    row_found p.table.start_in_direct p.table.row_in_indirect c.rows.invariant p.width c.rows-test.true
    (shallow p _ c.if-size-geometry.false) (omega (arith, c.end_of_row-row_end.ensures)) c.slot_in_row.ensures

-- the row is over, be its slots indirect or direct
over : (t : ℕ) (c : goal.Joined-size-geometry t)
    → InRow (table_of c.args.geometry.now) (Sought c.args.offset c.args.at c.if-size-geometry.here) c.args.levels
    c.args.at c.args.end c.rows.here c.if-size-geometry.here c.rows.size c.rows.next 0
over t c =
    let p = c.requires.table in
    let g = p.table.start_in_direct in
    let i = p.table.row_in_indirect in
    elim c.if-size-geometry.branch [
      | then-size-geometry+else-indirect-test w ↦ row_over g i w.indirect.invariant w.indirect-test.false w.here-is
      | else-size-geometry+else-offset-row_end w ↦
          row_over g i
          (row_passed g i c.rows.invariant p.width c.rows-test.true
          (omega (arith, w.end_of_row-row_end.ensures, w.if-offset-row_end.false)))
          (omega arith) (w.here-is ∙ w.end_of_row-row_end.ensures)
    ]

pub overflow_add-next : goal.overflow_add-next
overflow_add-next t c = omega (arith, next_small (over t c), in_words c.requires.table)

pub rows-smaller : goal.rows-smaller
rows-smaller t c = let done = row-end (over t c) refl in omega (arith, done.1, done.2)

pub rows-preserved : goal.rows-preserved
rows-preserved t c = (row-end (over t c) refl).0

pub returns : goal.returns
returns t c = all-passed c.rows.invariant c.rows-test.false
