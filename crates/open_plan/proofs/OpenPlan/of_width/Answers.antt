-- What is left of `OpenPlan::of_width`: it is the plan of no objects.
use Rattle.fields.specs.Widths.{byte_count}
use Rattle.open_plan.proofs.Planned.{of-none}
use Rattle.open_plan.proofs.OpenPlan.of_width.Goals as goal

pub returns-clause-empty : goal.returns-clause-empty
returns-clause-empty c = rw (c.new.ensures.state, c.bytes.ensures) (of-none (byte_count c.args.width))
