-- One object: the step of its definition, from the numbers that the code has.
use Rattle.std.proofs.Common.{◌≡◌, ℕ, ◌+◌, ◌<◌, Some, None, Option, refl, arith}
use Rattle.table.specs.Table.{fixed}
use Rattle.table.specs.Slots.{entered_bytes}
use Rattle.table.specs.Sizes.{direct_header}
use Rattle.table.specs.declared.Slot.{Slot}
use Rattle.planner.specs.Steps.{open_at, block_end, step_of}
use Rattle.planner.specs.declared.State.{State}
use Rattle.planner.proofs.Stepping.{step-open}

-- the state after an object of x bytes that opened the slot b, from its header's size and the bytes of new indirect
-- blocks
abbrev pub after : State → ℕ → ℕ → ℕ → Slot → State
after s x h e b = record {
  start = b.start;
  size = b.size;
  fill = h + x;
  count = s.count + 1;
  allocated = s.allocated + b.size;
  used = s.used + x;
  indirect = s.indirect + e;
}

module _ (w : ℕ) (s : State) (x : ℕ) (full : s.size < s.fill + x) {h : ℕ} (hi : h ≡ direct_header fixed w) where
  pub opens-at : {e : ℕ} {b : Slot} → e ≡ entered_bytes fixed w (block_end s) b.start
      → Some b ≡ open_at fixed (h + x) (block_end s) → step_of fixed w s x ≡ Some (after s x h e b, b.start + h)
  opens-at ei q = grind (arith, step-open fixed w s x full)

-- an object that the current block has no room for opens one block
pub opens-one : (w : ℕ) (s : State) (x : ℕ) (s' : State) (o : ℕ) → s.size < s.fill + x
    → step_of fixed w s x ≡ Some (s', o) → s'.count ≡ s.count + 1
opens-one w s x s' o l e = go (open_at fixed (direct_header fixed w + x) (block_end s)) refl
  where
    go : (v : Option Slot) → open_at fixed (direct_header fixed w + x) (block_end s) ≡ v → s'.count ≡ s.count + 1
    go (Some b) q = grind (arith, step-open fixed w s x l)
    go None q = grind (arith, step-open fixed w s x l)
