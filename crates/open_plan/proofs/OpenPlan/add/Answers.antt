-- What is left of `OpenPlan::add`: the plan of a list, and one object more.
use Rattle.std.proofs.Common.{arith}
use Rattle.open_plan.proofs.Planned.{extends, too-large, no-slot}
use Rattle.open_plan.proofs.OpenPlan.add.Goals as goal

pub returns-then-size-max_managed_object-clause-refused_as_planned :
    goal.returns-then-size-max_managed_object-clause-refused_as_planned
returns-then-size-max_managed_object-clause-refused_as_planned c xs P few o b lo lb =
    too-large _ xs c.args.size o b c.args.self.now.width_legal lo lb P (omega arith)

pub returns-in_default-clause-refused_as_planned : goal.returns-in_default-clause-refused_as_planned
returns-in_default-clause-refused_as_planned c xs P few o b lo lb =
    no-slot _ xs c.args.size o b c.args.self.now.width_legal lo lb P (omega arith) c.in_default.ensures.ends

pub returns-clause-extends : goal.returns-clause-extends
returns-clause-extends c xs P = extends P (omega arith) c.in-Some.ensures.placed
