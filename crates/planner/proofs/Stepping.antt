-- What a step of planning keeps and does: in the same block, or in a new one after it.
use Rattle.std.proofs.Common.{◌≡◌, ℕ, suc, ◌+◌, ◌-◌, ◌*◌, ◌^◌, ◌<◌, ◌≤◌, ◌⊎◌, List, Some, None, Option, refl, subst}
use Rattle.std.proofs.Common.{arith, pow_pos}
use Rattle.std.proofs.lemmas.Bool.Decides.{nat_tests}
use Rattle.table.specs.Table.{Table, fixed}
use Rattle.table.specs.Slots.{slot_at, entered_bytes}
use Rattle.table.specs.Sizes.{direct_header, max_managed}
use Rattle.table.specs.declared.Slot.{Slot}
use Rattle.table.proofs.Slots.{Start, top_start, end-le, start-next}
use Rattle.table_laws.proofs.Format.{slot-least}
use Rattle.planner.specs.Steps.{open_at, block_end, initial, filled, in_new, opened, step_of}
use Rattle.planner.specs.Requires.{Small}
use Rattle.planner.specs.declared.State.{State}
use Rattle.planner.proofs.Opening.{Found, open-found}

-- a state that planning can reach; before the first block `fill` is past the block of no bytes
pub record Sane (t : Table) (w : ℕ) (s : State) : Type 0 where
  pub heap : block_end s ≤ 2 ^ t.heap_bits
  pub next_slot : Start t (block_end s)
  pub fits : s.fill ≤ s.size + direct_header t w
  pub spent : s.used + (s.size - s.fill) ≤ s.allocated
  pub taken : s.allocated ≤ block_end s
  pub blocks : s.count * 2 ^ t.start_bits ≤ s.allocated

-- in the same block
pub record Same (s s' : State) (o : ℕ) : Type 0 where
  pub count-is : s'.count ≡ s.count
  pub start_is : s'.start ≡ s.start
  pub size_is : s'.size ≡ s.size
  pub allocated-is : s'.allocated ≡ s.allocated
  pub indirect-is : s'.indirect ≡ s.indirect
  pub place : o ≡ s.start + s.fill

-- in a new one, a direct slot at or after the end of the block before
pub record New (t : Table) (w : ℕ) (s s' : State) (o : ℕ) : Type 0 where
  pub count-is : s'.count ≡ s.count + 1
  pub place : o ≡ s'.start + direct_header t w
  pub after : block_end s ≤ s'.start
  pub inside : s'.start < 2 ^ t.heap_bits
  pub size_is : s'.size ≡ (slot_at t s'.start).size
  pub starts : Start t s'.start
  pub allocated-is : s'.allocated ≡ s.allocated + s'.size
  pub indirect-is : s'.indirect ≡ s.indirect + entered_bytes t w (block_end s) s'.start

-- an object of x bytes was placed at o
pub record Placing (t : Table) (w : ℕ) (s : State) (x : ℕ) (s' : State) (o : ℕ) : Type 0 where
  pub ok : Sane t w s'
  pub from : s.start + s.fill ≤ o + direct_header t w
  pub to : o + x ≡ s'.start + s'.fill
  pub within : s'.fill ≤ s'.size
  pub is-used : s'.used ≡ s.used + x
  pub way : Same s s' o ⊎ New t w s s' o

module _ (t : Table) (g : t.start_bits ≤ t.direct_bits) (k : t.start_bits ≤ t.heap_bits) where
  module _ (w : ℕ) (s : State) (x : ℕ) (I : Sane t w s) where
    placed_same : s.fill + x ≤ s.size → Placing t w s x (filled s x) (s.start + s.fill)
    placed_same l = grind arith

    placed-new : (b : Slot) → open_at t (direct_header t w + x) (block_end s) ≡ Some b
        → Placing t w s x (in_new t w s x b) (b.start + direct_header t w)
    placed-new b e =
        let F : Found t g k (direct_header t w + x) (block_end s) b =
        open-found t g k (direct_header t w + x) (block_end s) I.next_slot b e in
        grind (
          arith,
          end-le t b.start g k F.inside,
          start-next t g k b.start F.starts F.inside,
          slot-least t g {s = b.start} {z = b.size},
        )

    -- what a step that places an object does
    pub step-placed : (s' : State) (o : ℕ) → step_of t w s x ≡ Some (s', o) → Placing t w s x s' o
    step-placed s' o e = go (open_at t (direct_header t w + x) (block_end s)) refl
      where
        go : (v : Option Slot) → open_at t (direct_header t w + x) (block_end s) ≡ v → Placing t w s x s' o
        go (Some b) q = grind (arith, nat_tests, placed_same, placed-new b q)
        go None q = grind (arith, nat_tests, placed_same)

module _ (t : Table) (w : ℕ) (s : State) (x : ℕ) where
  pub step_same : s.fill + x ≤ s.size → step_of t w s x ≡ Some (filled s x, s.start + s.fill)
  step_same l = grind (arith, nat_tests)

  pub step-open : s.size < s.fill + x
      → step_of t w s x ≡ opened t w s x (open_at t (direct_header t w + x) (block_end s))
  step-open l = grind (arith, nat_tests)

-- ---- the first state

-- a heap's first slot begins at 0
pub start-zero : (t : Table) → t.start_bits ≤ t.direct_bits → Start t 0
start-zero t g =
    subst (Start t) (let z : 0 * 2 ^ t.start_bits ≡ 0 = omega arith in z)
    (top_start t g 0 t.start_bits
    (record { lo = omega arith; up = pow_pos (suc t.width_bits); hi = λ z. absurd (omega arith) }))

pub ok-initial : (t : Table) (w : ℕ) → t.start_bits ≤ t.direct_bits → Sane t w (initial t w)
ok-initial t w g = grind (arith, start-zero t g)

-- ---- the same of the code's numbers

-- sizes within the limit are below 65,536
pub limit-small : (w : ℕ) (xs : List ℕ) → Small (max_managed fixed w) xs → Small 65536 xs
limit-small w xs S = grind arith
