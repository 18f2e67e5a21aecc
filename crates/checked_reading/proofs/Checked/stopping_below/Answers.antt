-- What is left of `stopping_below`: the path goes on in a child that is an indirect block.
use Rattle.std.proofs.Common.{◌-◌, ◌+◌, sym, ap, ◌∙◌, arith}
use Rattle.std.specs.Prelude.{Some}
use Rattle.checked_reading.proofs.Lasts.{stops_deeper}
use Rattle.checked_reading.proofs.Checked.stopping_below.Goals as goal

pub loop-depth-preserved : goal.loop-depth-preserved
loop-depth-preserved c =
    let search = c.args.search.now in
    let file = search.file.now in
    let to_go = 64 - (c.loop-depth._depth + 1) in
    let child = rw (c.in-Ok-Some.field-0-is, c.in-Indirect.is) at c.in-Ok-Some.ensures in
    c.loop-depth.invariant
    ∙ ap Some (stops_deeper c.args.self.now search.table file search.offset_size search.target
    _ to_go _ _ _ _ _ _ _ (omega arith) (sym c.in-Ok.ensures) (sym child))
