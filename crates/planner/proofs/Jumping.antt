-- A slot begins at a multiple of its size: so no slot of 2 ^ e bytes or more begins between two multiples of
-- 2 ^ e, and the search may go on at the next one.
use Rattle.std.proofs.Common.{◌≡◌, ℕ, zero, suc, ◌+◌, ◌-◌, ◌*◌, ◌/◌, ◌%◌, ◌^◌, ◌<◌, ◌≤◌, max, sym, ap, ◌∙◌, arith}
use Rattle.std.proofs.Common.{pow_pos, pow_mono, pow-add, mul-le-mul_right, lt_of_mul-lt-mul_right}
use Rattle.std.specs.Int.{IsPowerOfTwo}
use Rattle.std.specs.Int.Bits.{bit_and}
use Rattle.std.proofs.lemmas.Nat.{and_mask}
use Rattle.table.specs.Table.{Table, fixed}
use Rattle.table.specs.Slots.{slot_bits, slot_at, slot_end}
use Rattle.table.specs.declared.Slot.{Slot}
use Rattle.table.proofs.Slots.{Start, end-gt, end-le, start-here, start-next, end-start}
use Rattle.planner.specs.Steps.{open_at}
use Rattle.planner.proofs.Opening.{open-pass}

power-parts : (b d : ℕ) → d ≤ b → 2 ^ b ≡ 2 ^ (b - d) * 2 ^ d
power-parts b d l = let e : b ≡ (b - d) + d = omega arith in ap (λ (i : ℕ). 2 ^ i) e ∙ pow-add 2 (b - d) d

-- of two multiples of powers of two the larger is larger by the smaller power at least
multiples-apart : (m b q e d : ℕ) → d ≤ b → d ≤ e → m * 2 ^ b < q * 2 ^ e → m * 2 ^ b + 2 ^ d ≤ q * 2 ^ e
multiples-apart m b q e d l r u =
    let one : m * 2 ^ b ≡ (m * 2 ^ (b - d)) * 2 ^ d = grind (arith, power-parts b d l) in
    let two : q * 2 ^ e ≡ (q * 2 ^ (e - d)) * 2 ^ d = grind (arith, power-parts e d r) in
    let more : suc (m * 2 ^ (b - d)) ≤ q * 2 ^ (e - d) = lt_of_mul-lt-mul_right (2 ^ d) (omega arith) in
    let times : suc (m * 2 ^ (b - d)) * 2 ^ d ≤ (q * 2 ^ (e - d)) * 2 ^ d = mul-le-mul_right (2 ^ d) more in
    omega arith

module _ (t : Table) (g : t.start_bits ≤ t.direct_bits) (k : t.start_bits ≤ t.heap_bits) where
  -- a slot that begins before a multiple of 2 ^ e ends at it or before, unless it is as large as 2 ^ e
  slot-before : (c q e : ℕ) → Start t c → c < 2 ^ t.heap_bits → c < q * 2 ^ e → q * 2 ^ e < c + 2 ^ e
      → (slot_bits t c < e) × (slot_end (slot_at t c) ≤ q * 2 ^ e)
  slot-before c q e s h l u =
      grind (
        arith,
        start-here t g k c s h,
        multiples-apart (c / 2 ^ slot_bits t c) (slot_bits t c) q e e,
        multiples-apart (c / 2 ^ slot_bits t c) (slot_bits t c) q e (slot_bits t c),
      )

  -- from a slot's start to the next multiple of 2 ^ e no slot holds n
  pub jump : (f n e c q : ℕ) → Start t c → q * 2 ^ e ≤ c + f → c ≤ q * 2 ^ e → q * 2 ^ e < c + 2 ^ e
      → q * 2 ^ e ≤ 2 ^ t.heap_bits
      → ((j : ℕ) → n ≤ 2 ^ j → e ≤ j) → open_at t n c ≡ open_at t n (q * 2 ^ e)
  jump zero n e c q s a l u w least = grind arith
  jump (suc f) n e c q s a l u w least =
      grind (
        arith,
        slot-before c q e s,
        open-pass t n c,
        least (slot_bits t c),
        end-gt t c,
        start-next t g k c s,
        λ (s' : Start t (slot_end (slot_at t c))). jump f n e (slot_end (slot_at t c)) q s',
      )

  -- a slot that is too small, and then every slot that begins before the next multiple y
  pass-jump : (n e c y q : ℕ) (s : Slot) → s ≡ slot_at t c → c < 2 ^ t.heap_bits → e ≤ t.heap_bits → s.size < n
      → ((j : ℕ) → n ≤ 2 ^ j → e ≤ j) → s.start + s.size ≤ y → y < s.start + s.size + 2 ^ e → y ≡ q * 2 ^ e
      → (open_at t n c ≡ open_at t n y) × (c < y) × (y ≤ 2 ^ t.heap_bits)
  pass-jump n e c y q s is h eh l least lo up ye =
      let end : slot_end (slot_at t c) ≡ s.start + s.size = ap slot_end (sym is) in
      let below : q * 2 ^ e ≤ 2 ^ t.heap_bits =
      grind (arith, end-le t c g k h, multiples-apart 1 t.heap_bits q e e) in
      grind (arith, end-gt t c, open-pass t n c h, jump (2 ^ e) n e (slot_end (slot_at t c)) q (end-start t g k c h))

-- no smaller power of two holds n
power-least : (n e j : ℕ) → 2 ^ e / 2 < max 1 n → n ≤ 2 ^ j → e ≤ j
power-least n e j u l = grind (arith, pow_pos j, pow_mono {i = suc j} {j = e})

-- the same of the code's numbers: p is the least power of two that holds n, x the end of the slot that is too small
pub record Jumped (n c p x : ℕ) : Type 0 where
  pub sum : x + (p - 1) ≤ 2 ^ 41
  pub same : open_at fixed n c ≡ open_at fixed n (x + (p - 1) - bit_and (x + (p - 1)) (p - 1))
  pub on : c < x + (p - 1) - bit_and (x + (p - 1)) (p - 1)
  pub within : x + (p - 1) - bit_and (x + (p - 1)) (p - 1) ≤ 2 ^ 40

jumped-power : (n c e : ℕ) (s : Slot) → 2 ^ e / 2 < max 1 n → n ≤ 65536 → s ≡ slot_at fixed c → c < 2 ^ 40 → s.size < n
    → Jumped n c (2 ^ e) (s.start + s.size)
jumped-power n c e s half h is l u =
    let end = s.start + s.size + (2 ^ e - 1) in
    let few : e ≤ 16 = power-least n e 16 half h in
    let small : 2 ^ e ≤ 2 ^ 16 = pow_mono few in
    let some : 0 < 2 ^ e = pow_pos e in
    let mask : bit_and end (2 ^ e - 1) ≡ end % 2 ^ e = and_mask end e in
    let within : slot_end s ≤ 2 ^ 40 = rw is (end-le fixed c (omega arith) (omega arith) l) in
    let y = end - bit_and end (2 ^ e - 1) in
    let jumped = pass-jump fixed (omega arith) (omega arith) n e c y (end / 2 ^ e) s is l (omega arith) u
    (λ j v. power-least n e j half v) (omega arith) (omega arith) (grind arith) in
    record { sum = omega arith; same = jumped.0; on = jumped.1; within = jumped.2 }

pub jumped : {n c p : ℕ} {s : Slot} → IsPowerOfTwo p → p / 2 < max 1 n → n ≤ 65536 → s ≡ slot_at fixed c → c < 2 ^ 40
    → s.size < n → Jumped n c p (s.start + s.size)
jumped {n} {c} {p} {s} (e, is) half h = rw is (jumped-power n c e s (rw is at half) h)
