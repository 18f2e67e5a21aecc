-- What is left of `plans`: by the clause `kept` each front part of an accepted plan has its heap offsets.
use Rattle.std.proofs.Common.{◌≡◌, sym, ◌∙◌, arith, length, take, eqb-true}
use Rattle.std.specs.Prelude.{max}
use Rattle.plan.specs.declared.ManagedPlan.{ManagedPlan}
use Rattle.plan.specs.Plans.{PlanKept}
use Rattle.tools_c.proofs.Accepting.{accepted}
use Rattle.tools_c.proofs.tests.plans.Goals as goal

pub returns : goal.returns
returns c accepts k l =
    let zero : c.tools_plan.result ≡ 0 = eqb-true c.tools_plan.result 0 accepts in
    let first = take k c.args.sizes.now in
    accepted _ _ _ (sym c.tools_plan.ensures.number ∙ zero) (c.tools_plan.ensures.kept zero)
    (λ (plan : ManagedPlan) (kept : PlanKept c.args.sizes.now c.args.offset_size plan).
    (kept.front_parts k (length first) (max 1 (length first)) (omega arith) (omega arith)).same_offsets)
