-- The search for a slot that is large enough, a slot at a time: what it finds, and when it finds nothing.
use Rattle.std.proofs.Common.{◌≡◌, ℕ, zero, suc, ◌+◌, ◌-◌, ◌^◌, ◌<◌, ◌≤◌, Some, None, refl, arith}
use Rattle.std.proofs.lemmas.Bool.Decides.{nat_tests}
use Rattle.table.specs.Table.{Table}
use Rattle.table.specs.Slots.{slot_at, slot_end}
use Rattle.table.specs.declared.Slot.{Slot}
use Rattle.table.proofs.Slots.{Start, end-gt, apart, start-here, start-next}
use Rattle.planner.specs.Steps.{open_in, open_at}

module _ (t : Table) where
  open-fuel : (f g n c : ℕ) → 2 ^ t.heap_bits ≤ c + f → 2 ^ t.heap_bits ≤ c + g
      → open_in t f n c ≡ open_in t g n c
  unfolding open_in
  open-fuel zero zero n c h k = refl
  open-fuel zero (suc g) n c h k = grind (arith, nat_tests)
  open-fuel (suc f) zero n c h k = grind (arith, nat_tests)
  open-fuel (suc f) (suc g) n c h k = grind (arith, nat_tests, end-gt t c, open-fuel f g n (slot_end (slot_at t c)))

  -- one slot of the walk: the fuel that is left is enough from the slot's end on
  open-one : (f n c : ℕ) → 2 ^ t.heap_bits ≤ c + suc f → open_at t n c ≡ open_in t (suc f) n c
  open-one f n c h = open-fuel (2 ^ t.heap_bits - c) (suc f) n c (omega arith) h

  pub open-here : (n c : ℕ) → c < 2 ^ t.heap_bits → n ≤ (slot_at t c).size → open_at t n c ≡ Some (slot_at t c)
  unfolding open_in
  open-here n c h l = grind (arith, nat_tests, open-one (2 ^ t.heap_bits) n c)

  pub open-pass : (n c : ℕ) → c < 2 ^ t.heap_bits → (slot_at t c).size < n
      → open_at t n c ≡ open_at t n (slot_end (slot_at t c))
  unfolding open_in
  open-pass n c h l =
      grind (
        arith,
        nat_tests,
        end-gt t c,
        open-one (2 ^ t.heap_bits) n c,
        open-fuel (2 ^ t.heap_bits) (2 ^ t.heap_bits - slot_end (slot_at t c)) n (slot_end (slot_at t c)),
      )

  pub open_full : (n c : ℕ) → 2 ^ t.heap_bits ≤ c → open_at t n c ≡ None
  unfolding open_in
  open_full n c h = grind (arith, nat_tests, open-one (2 ^ t.heap_bits) n c)

module _ (t : Table) (g : t.start_bits ≤ t.direct_bits) (k : t.start_bits ≤ t.heap_bits) where
  -- what opening finds: the slot at a start c' from c on, in the heap, large enough
  pub record Found (n c : ℕ) (b : Slot) : Type 0 where
    pub is : b ≡ slot_at t b.start
    pub starts : Start t b.start
    pub after : c ≤ b.start
    pub inside : b.start < 2 ^ t.heap_bits
    pub enough : n ≤ b.size

  open-in-found : (f n c : ℕ) (b : Slot) → Start t c → open_in t f n c ≡ Some b → Found n c b
  unfolding open_in
  open-in-found zero n c b s e = absurd cc
  open-in-found (suc f) n c b s e =
      grind (
        arith,
        nat_tests,
        start-here t g k c s,
        end-gt t c,
        start-next t g k c s,
        open-in-found f n (slot_end (slot_at t c)) b,
      )

  pub open-found : (n c : ℕ) → Start t c → (b : Slot) → open_at t n c ≡ Some b → Found n c b
  open-found n c s b e = open-in-found (2 ^ t.heap_bits - c) n c b s e

  full-in : (f n c : ℕ) → 2 ^ t.heap_bits ≤ c + f → Start t c → open_in t f n c ≡ None
      → (b : ℕ) → Start t b → c ≤ b → b < 2 ^ t.heap_bits → (slot_at t b).size < n
  unfolding open_in
  full-in zero n c h s e b r l u = absurd (omega arith)
  full-in (suc f) n c h s e b r l u =
      grind (
        arith,
        nat_tests,
        end-gt t c,
        start-next t g k c s,
        apart t g k c b s r,
        full-in f n (slot_end (slot_at t c)),
      )

  -- the heap is full for n bytes only if no slot from c on has n bytes
  pub full-none : (n c : ℕ) → Start t c → open_at t n c ≡ None
      → (b : ℕ) → Start t b → c ≤ b → b < 2 ^ t.heap_bits → (slot_at t b).size < n
  full-none n c s e b r l u = full-in (2 ^ t.heap_bits - c) n c (omega arith) s e b r l u
