-- No two objects share a byte, each lies in the body of a placed block, and none touches a block header.
use Rattle.std.proofs.Common.{◌≡◌, ℕ, zero, suc, ◌+◌, ◌<◌, ◌≤◌, List, length, slice_index, Ok, sym, arith}
use Rattle.fields.proofs.Widths.{legal-small}
use Rattle.table.specs.Table.{fixed}
use Rattle.table.specs.Slots.{Direct}
use Rattle.table.specs.Sizes.{direct_header}
use Rattle.table_laws.proofs.Format.{slot-least, slots-meet, fixed-slot, slot-fixed}
use Rattle.plan.specs.declared.ManagedPlan.{ManagedPlan}
use Rattle.planner.specs.Steps.{plan_offsets}
use Rattle.plan.specs.Answer.{planned_for}
use Rattle.plan.specs.Plans.{InObject, InPlacedBlock}
use Rattle.plan.proofs.Answering.{accepted}
use Rattle.plan.proofs.Laying.{Spaced, none, more, spaced, held, starts-some, ran-ok, ran-laid}

-- objects in order: each ends before the later ones begin
spaced-from : {lo hi : ℕ} {os xs : List ℕ} → Spaced lo os xs hi → (j : ℕ) → j < length xs → lo ≤ slice_index os j
spaced-from (none l) j u = absurd (omega arith)
spaced-from (more l s) zero u = l
spaced-from (more l s) (suc j) u = grind (arith, spaced-from s j)

spaced-apart : {lo hi : ℕ} {os xs : List ℕ} → Spaced lo os xs hi → (i j : ℕ) → i < j → j < length xs
    → slice_index os i + slice_index xs i ≤ slice_index os j
spaced-apart (none l) i j u v = absurd (omega arith)
spaced-apart (more l s) i zero u v = absurd (omega arith)
spaced-apart (more l s) zero (suc j) u v = spaced-from s j (omega arith)
spaced-apart (more l s) (suc i) (suc j) u v = spaced-apart s i j (omega arith) (omega arith)

module _ (xs : List ℕ) (o b w : ℕ) (p : ManagedPlan) (e : planned_for xs o b w ≡ Ok p) where
  -- a heap offset is a byte of one object at most
  pub no-shared-byte : (i j x : ℕ) → InObject (plan_offsets fixed w xs) xs i x
      → InObject (plan_offsets fixed w xs) xs j x
      → i ≡ j
  no-shared-byte i j x A B =
      let went = (accepted xs o b w p e).1 in
      let s = spaced (ran-ok w) (ran-laid w xs went.state went.ran) in
      grind (arith, spaced-apart s i j, spaced-apart s j i)

  -- each object lies in the body of one placed block
  pub in-one-body : (i : ℕ) → i < length xs → InPlacedBlock w xs i
  in-one-body i l =
      let went = (accepted xs o b w p e).1 in
      let H = rw (sym (starts-some w xs (omega arith))) at (held (ran-laid w xs went.state went.ran) i l) in
      record {
        n = H.n;
        placed = H.placed;
        size = H.size;
        slot = slot-fixed H.slot;
        past_header = H.from;
        ends_inside = H.to;
      }

  -- no object has a byte in a block header, be the block placed or not
  pub no-header-touched : (i x : ℕ) → InObject (plan_offsets fixed w xs) xs i x
      → (s z : ℕ) → Direct fixed 29 s z → s ≤ x → x < s + direct_header fixed w → ⊥
  no-header-touched i x A s z D lo hi =
      let B = in-one-body i A.is_object in
      let S = fixed-slot D in
      grind (
        arith,
        legal-small w (accepted xs o b w p e).0.width,
        slot-least fixed (omega arith) S,
        slots-meet fixed (omega arith) x (omega arith) S (fixed-slot B.slot),
      )
