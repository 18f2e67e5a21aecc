-- What is left of `fill`: the invariant begins, holds on, and at the end nothing is left to store.
use Rattle.std.proofs.Common.{sym, ◌∙◌, arith}
use Rattle.run_report.proofs.Filling.{fill_start, fill_more, fill_done}
use Rattle.run_report.proofs.fill.Goals as goal

pub loop-byte-init : goal.loop-byte-init
loop-byte-init c = fill_start c.args.bytes.now 1

pub loop-byte-preserved : goal.loop-byte-preserved
loop-byte-preserved c =
    c.loop-byte.invariant
    ∙ fill_more _ _ (omega arith) c.following-x.ensures

pub returns : goal.returns
returns c =
    sym (c.loop-byte.invariant
    ∙ fill_done c.loop-byte.bytes c.loop-byte.x (omega arith))
