-- The walk from the block that was reached on is the walk from the root.
use Rattle.std.proofs.Common.{◌≡◌, ◌-◌}
use Rattle.reading.specs.Walk.{walk_by}
use Rattle.reading.proofs.Search.read_from_indirect_block.Given as goal

abbrev pub invariant-loop-depth : goal.invariant-loop-depth
invariant-loop-depth g l =
    let file = l.self.file.now in
    let taking = g.B.BlockReader.taking l.blocks l.self.table file l.self.offset_size l.self.target l.self.len in
    let walk = walk_by taking l.self.table file l.self.offset_size l.self.target l.self.len in
    walk 64 l.root l.root_rows 0 ≡ walk (64 - l._depth) l.block l.rows l.start
