-- What every accepted plan keeps.
use Rattle.std.proofs.Common.{◌≡◌, ℕ, List, Ok, sym}
use Rattle.plan.specs.declared.ManagedPlan.{ManagedPlan}
use Rattle.plan.specs.Answer.{planned_for}
use Rattle.plan.specs.Plans.{PlanKept, FrontPartsFit, EndsIffNoneFits, RootFits, Tallied}
use Rattle.plan.proofs.Checking.{Passing}
use Rattle.plan.proofs.Answering.{accepted}
use Rattle.plan.proofs.Front.{front-part, front-part-there}
use Rattle.plan.proofs.Objects.{no-shared-byte, in-one-body, no-header-touched}
use Rattle.plan.proofs.Free.{free-is-count}
use Rattle.plan.proofs.Full.{ends-iff-none-fits}
use Rattle.plan.proofs.Root.{root-rows-fewest, no-root-rows, one-block}
use Rattle.plan.proofs.Tally.{tallied}

module _ (xs : List ℕ) (o b w : ℕ) (p : ManagedPlan) (e : planned_for xs o b w ≡ Ok p) where
  pub plan-kept : PlanKept xs w p
  plan-kept = record {
    front_parts = front-part xs o b w p e;
    no_shared_byte = no-shared-byte xs o b w p e;
    in_a_body = in-one-body xs o b w p e;
    no_header_touched = no-header-touched xs o b w p e;
    free_space = free-is-count xs o b w p e;
  }

  pub root-fits : RootFits xs w p
  root-fits = record {
    rows_are_fewest = root-rows-fewest xs o b w p e;
    no_rows_one_block = no-root-rows xs o b w p e;
    one_block_no_rows = one-block xs o b w p e;
  }

-- all of it, of an answer
pub record Accepted (xs : List ℕ) (o b w : ℕ) (p : ManagedPlan) : Type 0 where
  pub passing : Passing xs o b w
  pub kept : PlanKept xs w p
  pub root : RootFits xs w p
  pub tallies : Tallied xs w p

pub of-answer : {xs : List ℕ} {o b w : ℕ} {p : ManagedPlan} → Ok p ≡ planned_for xs o b w → Accepted xs o b w p
of-answer {xs} {o} {b} {w} {p} is =
    let e = sym is in
    record {
      passing = (accepted xs o b w p e).0;
      kept = plan-kept xs o b w p e;
      root = root-fits xs o b w p e;
      tallies = tallied xs o b w p e;
    }

pub front-parts-fit : FrontPartsFit
front-parts-fit = front-part-there

pub none-fits : EndsIffNoneFits
none-fits = ends-iff-none-fits
