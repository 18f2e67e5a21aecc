-- What is left of `OpenPlan::totals`: planning the list gives these totals.
use Rattle.std.proofs.Common.{ap, ◌∙◌, sym, Ok}
use Rattle.open_plan.proofs.Planned.{planned-totals}
use Rattle.open_plan.proofs.OpenPlan.totals.Goals as goal

pub returns-clause-planned : goal.returns-clause-planned
returns-clause-planned c sizes P o b lo lb =
    planned-totals P c.args.self.now.width_legal o b lo lb ∙ ap Ok (sym c.of.ensures)
