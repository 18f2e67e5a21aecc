-- What is left of `read_each`: at the start all is left to store, each turn stores one answer, at the end none is left.
use Rattle.std.proofs.Common.{sym, ap, ◌∙◌, arith}
use Rattle.refusals.specs.Refusals.{report_of}
use Rattle.fields.specs.Places.{place_report}
use Rattle.tools_c.proofs.Storing.{rest_begun, rest_more, rest_done}
use Rattle.tools_c.proofs.objects.id_lists.read_each.Goals as goal

pub loop-i-init : goal.loop-i-init
loop-i-init g c = rest_begun _ _ _ _ c.requires

pub loop-i-preserved : goal.loop-i-preserved
loop-i-preserved g c =
    let told = c.answer-a.ensures ∙ ap (report_of place_report) c.read.ensures in
    c.loop-i.invariant ∙ rest_more _ _ _ _ _ _ _ (omega arith) c.from.ensures told

pub returns : goal.returns
returns g c = sym (c.loop-i.invariant ∙ rest_done _ _ _ _ _ (omega arith))
