-- The ID by a plan, step by step.
use Rattle.std.proofs.Common.{◌≡◌, ℕ, ◌<◌, List, ◌++◌, length, drop, slice_index, Result, Ok, sym, ap, ◌∙◌, arith}
use Rattle.std.proofs.Math.ListN.{length-append, get_or-append}
use Rattle.table.specs.Table.{fixed}
use Rattle.refusals.specs.Steps.{◌>>=◌}
use Rattle.refusals.specs.declared.FormatError.{FormatError}
use Rattle.fields.specs.LittleEndian.{put}
use Rattle.fields.proofs.LittleEndian.{put_front}
use Rattle.planner.specs.Steps.{plan_offsets}
use Rattle.plan.specs.declared.ManagedPlan.{ManagedPlan}
use Rattle.plan.specs.Answer.{planned_for}
use Rattle.plan.specs.Plans.{object_start}
use Rattle.plan.proofs.Tally.{tallied}
use Rattle.ids.specs.Written.{managed_id}
use Rattle.ids.specs.Checks.{id_checked}
use Rattle.round_trip.specs.Early.{early_id}

module _ (xs os : List ℕ) (o b w : ℕ) {left : List ℕ} {i : ℕ} {p : ManagedPlan} (e : planned_for xs o b w ≡ Ok p)
    (l : i < length xs)
    (f : left ≡ put os 0 (plan_offsets fixed w xs)) where
  abbrev offsets : List ℕ
  offsets = plan_offsets fixed w xs

  many : length offsets ≡ length xs
  many = (tallied xs o b w p e).offsets

  lists : left ≡ offsets ++ drop (length offsets) os
  lists = f ∙ put_front os offsets

  pub placed : i < length left
  placed = omega (arith, l, many, ap length lists, length-append offsets (drop (length offsets) os))

  offset-is : slice_index left i ≡ object_start w xs i
  offset-is =
      ap (λ (v : List ℕ). slice_index v i) lists
      ∙ get_or-append offsets (drop (length offsets) os) 0 i (omega (arith, l, many))

  -- where planning accepts the ID writer decides
  pub decided : {r : Result (Unit {0}) FormatError} → r ≡ id_checked fixed (slice_index left i) (slice_index xs i) 8
      → early_id xs i o b w ≡ (r >>= λ _. Ok (managed_id fixed (slice_index left i) (slice_index xs i)))
  decided d =
      rw e
      (ap (λ (x : ℕ). id_checked fixed x (slice_index xs i) 8 >>= λ _. Ok (managed_id fixed x (slice_index xs i)))
      (sym offset-is)
      ∙ ap (λ (t : Result (Unit {0}) FormatError). t >>= λ _.
      Ok (managed_id fixed (slice_index left i) (slice_index xs i))) (sym d))
