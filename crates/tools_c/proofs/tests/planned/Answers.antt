-- What is left of `planned`: by the clauses `root` and `tallied` of `ManagedPlan::new`.
use Rattle.std.proofs.Common.{arith}
use Rattle.tools_c.proofs.tests.planned.Goals as goal

pub returns-clause-fewest : goal.returns-clause-fewest
returns-clause-fewest c rows l = (c.in_ok-plan.ensures.root.rows_are_fewest (omega (arith, l))).fewer_do_not rows l

pub returns-clause-counted : goal.returns-clause-counted
returns-clause-counted c = c.in_ok-plan.ensures.tallied.blocks
