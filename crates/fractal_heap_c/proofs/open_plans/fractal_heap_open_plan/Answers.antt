-- What is opened is the plan of no objects. The prover finds this, too; it is named so that a wrong plan is refused for
-- what it holds.
use Rattle.fractal_heap_c.proofs.open_plans.fractal_heap_open_plan.Goals as goal

pub returns-in-Ok-clause-opened : goal.returns-in-Ok-clause-opened
returns-in-Ok-clause-opened c e = c.in-Ok.ensures.empty
