-- What is left of `writes`: by the clause `kept` the objects of an accepted plan share no byte.
use Rattle.std.proofs.Common.{◌≡◌, sym, ◌∙◌, eqb-true}
use Rattle.plan.specs.declared.ManagedPlan.{ManagedPlan}
use Rattle.plan.specs.Plans.{PlanKept}
use Rattle.tools_c.proofs.Accepting.{accepted}
use Rattle.tools_c.proofs.tests.writes.Goals as goal

pub returns : goal.returns
returns c accepts i j x p q =
    let zero : c.tools_serialize.result ≡ 0 = eqb-true c.tools_serialize.result 0 accepts in
    accepted _ _ _ (sym c.tools_serialize.ensures.number ∙ zero) (c.tools_serialize.ensures.kept zero)
    (λ (plan : ManagedPlan) (kept : PlanKept c.args.sizes.now 8 plan). kept.no_shared_byte i j x p q)
