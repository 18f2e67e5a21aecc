-- What is left of `count_to_in`: the whole heap is a block, and what its walk comes to is the offset's slot.
use Rattle.std.proofs.Common.{sym, ◌∙◌, arith}
use Rattle.slot_walk.proofs.Searching.{outside, heap-block, heap-searched, holds-it}
use Rattle.slot_walk.proofs.finding.count_to_in.Goals as goal

pub returns-then-offset-end-clause-slot : goal.returns-then-offset-end-clause-slot
returns-then-offset-end-clause-slot c =
    sym (outside c.requires.table.table _ (omega (arith, c.heap_end-end.ensures)))

pub walk_block-requires-clause-block : goal.walk_block-requires-clause-block
walk_block-requires-clause-block c = heap-block c.requires.table.table c.heap_end-end.ensures c.requires.levels

pub returns : goal.returns
returns c =
    let T = c.requires.table.table in
    let slot = c.ok_or.ensures.value ∙ heap-searched T c.heap_end-end.ensures c.walk_block.ensures in
    record { slot = slot; holds = holds-it T (omega (arith, c.heap_end-end.ensures)) c.ok_or.result slot }
