-- What is left of `read_from_indirect_block`: a child that is an indirect block is a step of the walk.
use Rattle.std.proofs.Common.{◌-◌, ◌+◌, ◌∙◌, arith}
use Rattle.reading.proofs.Walking.{walk_deeper}
use Rattle.reading.proofs.Search.read_from_indirect_block.Goals as goal

pub loop-depth-preserved : goal.loop-depth-preserved
loop-depth-preserved g c =
    let found = rw c.in-Some.is at c.in_ok-child.ensures in
    let child = rw c.in-Indirect.is at found in
    let o = c.args.self.now in
    let file = o.file.now in
    let taking = g.B.BlockReader.taking c.args.blocks.now o.table file o.offset_size o.target o.len in
    let to_go = 64 - (c.loop-depth._depth + 1) in
    c.loop-depth.invariant
    ∙ walk_deeper taking o.table file o.offset_size o.target o.len to_go _ _ _ (omega arith)
    c.in_ok-open.ensures child
