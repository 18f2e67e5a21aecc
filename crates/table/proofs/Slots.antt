-- The direct slots: an offset has one, it begins at a multiple of its size, the next begins where it ends,
-- and none begins inside another. All at any table.
use Rattle.std.proofs.Common.{ℕ, zero, suc, ◌+◌, ◌-◌, ◌*◌, ◌/◌, ◌%◌, ◌^◌, ◌≤◌, ◌<◌, ◌≡◌, refl, sym, ap, ◌∙◌, subst}
use Rattle.std.proofs.Common.{inl, inr, arith}
use Rattle.std.proofs.Math.Nat.{lt-div-mul-add, div-mul-le_self, mod-lt, mul-div_cancel, mul-le-mul_right}
use Rattle.std.proofs.Math.Pow.{pow_mono, pow-lt}
use Rattle.std.proofs.lemmas.Bool.{cases_lt, le-leb, lt-leb}
use Rattle.std.proofs.lemmas.Nat.{pow_pos, pow-add, shr_split, same_from_place}
use Rattle.table.specs.Table.{Table, row_bits, row_of}
use Rattle.table.specs.Slots.{slot_bits_in, slot_bits, slot_at, slot_end}
use Rattle.table.proofs.Powers.{pow-split, join, part, step-below, carry}
use Rattle.table.proofs.Rows.{Top, heap-rows, top-row}

module _ {t : Table} where
  top-lt-absurd : {q b r q' b' : ℕ} (r' : ℕ) → Top t q b → Top t q' b' → r < 2 ^ b
      → q * 2 ^ b + r ≡ q' * 2 ^ b' + r' → b < b' → ⊥
  top-lt-absurd {q} {b} {r} {q'} {b'} r' T T' h e l =
      let low : suc q * 2 ^ b ≤ 2 ^ suc t.width_bits * 2 ^ b = mul-le-mul_right (2 ^ b) T.up in
      let more : 2 ^ (suc t.width_bits + b) ≤ 2 ^ (t.width_bits + b') = pow_mono (omega arith) in
      let high : 2 ^ t.width_bits * 2 ^ b' ≤ q' * 2 ^ b' = mul-le-mul_right (2 ^ b') (T'.hi (omega (arith, T.lo))) in
      omega (arith, pow-add 2 (suc t.width_bits) b, pow-add 2 t.width_bits b')

  pub top_unique : {q b r q' b' r' : ℕ} → Top t q b → Top t q' b' → r < 2 ^ b → r' < 2 ^ b'
      → q * 2 ^ b + r ≡ q' * 2 ^ b' + r' → b ≡ b'
  top_unique {q} {b} {r} {q'} {b'} {r'} T T' h h' e =
      let n : ¬ (b < b') = top-lt-absurd r' T T' h e in
      let n' : ¬ (b' < b) = top-lt-absurd r T' T h' (sym e) in
      omega arith

-- the direct slot that holds x has 2 ^ c bytes: x's own block, or inside it, by descent
pub data Slotted (t : Table) : ℕ → ℕ → Type 0 where
  top : {x : ℕ} (q b r : ℕ) → Top t q b → b ≤ t.direct_bits → r < 2 ^ b → x ≡ q * 2 ^ b + r → Slotted t x b
  sub : {x c : ℕ} (q b r : ℕ) → Top t q b → t.direct_bits < b → r < 2 ^ b → x ≡ q * 2 ^ b + r → Slotted t r c
      → Slotted t x c

module _ (t : Table) where
  pub slotted-unique : {x c : ℕ} → Slotted t x c → (y d : ℕ) → x ≡ y → Slotted t y d → c ≡ d
  slotted-unique (top q b r T l h e) y d p (top q' b' r' T' l' h' e') = top_unique T T' h h' (sym e ∙ p ∙ e')
  slotted-unique (top q b r T l h e) y d p (sub q' b' r' T' l' h' e' s) =
      let z : b ≡ b' = top_unique T T' h h' (sym e ∙ p ∙ e') in absurd (omega arith)
  slotted-unique (sub q b r T l h e s) y d p (top q' b' r' T' l' h' e') =
      let z : b ≡ b' = top_unique T T' h h' (sym e ∙ p ∙ e') in absurd (omega arith)
  slotted-unique (sub q b r T l h e s) y d p (sub q' b' r' T' l' h' e' s') =
      let z : b ≡ b' = top_unique T T' h h' (sym e ∙ p ∙ e') in
      let d' : q * 2 ^ b + r ≡ q' * 2 ^ b + r' = grind (arith, z) in
      slotted-unique s r' d (same_from_place q r q' r' (2 ^ b) h (rw z h') d').1 s'

  slotted-zero-at : (x : ℕ) → t.start_bits ≤ t.direct_bits → x < 2 ^ t.start_bits → Slotted t x t.start_bits
  slotted-zero-at x g h =
      let T : Top t 0 t.start_bits =
      record { lo = omega arith; up = pow_pos (suc t.width_bits); hi = λ l. absurd (omega arith) } in
      top 0 t.start_bits x T g h (omega arith)

  slot-in-is : (f x : ℕ) → t.start_bits ≤ t.direct_bits → x < 2 ^ f → x < 2 ^ t.heap_bits
      → Slotted t x (slot_bits_in t f x)
  unfolding slot_bits_in
  slot-in-is zero x g h k = slotted-zero-at x g (grind (arith, pow_pos t.start_bits))
  slot-in-is (suc f) x g h k =
      let b = row_bits t (row_of t x) in
      let T = top-row t x (heap-rows t x k) in
      let m : x % 2 ^ b < 2 ^ b = mod-lt x (pow_pos b) in
      let e : x / 2 ^ b * 2 ^ b + x % 2 ^ b ≡ x = shr_split x b in
      elim (cases_lt t.direct_bits b) [
        | inl l ↦
            let q : 1 * 2 ^ b ≤ x / 2 ^ b * 2 ^ b =
            mul-le-mul_right (2 ^ b) (omega (arith, T.hi (omega arith), pow_pos t.width_bits)) in
            let bf : b < suc f = grind (arith, pow_mono) in
            let bm : 2 ^ b ≤ 2 ^ f = pow_mono (omega arith) in
            let s = slot-in-is f (x % 2 ^ b) g (omega arith) (omega arith) in
            rw (lt-leb b t.direct_bits l, slot_bits_in) (sub (x / 2 ^ b) b (x % 2 ^ b) T l m (sym e) s)
        | inr l ↦ rw (le-leb b t.direct_bits l, slot_bits_in) (top (x / 2 ^ b) b (x % 2 ^ b) T l m (sym e))
      ]

  pub slot-bits-is : (x : ℕ) → t.start_bits ≤ t.direct_bits → x < 2 ^ t.heap_bits → Slotted t x (slot_bits t x)
  slot-bits-is x g h = slot-in-is t.heap_bits x g h h

-- x is where a direct slot begins
pub record Start (t : Table) (x : ℕ) : Type 0 where
  pub bits : ℕ
  pub slotted : Slotted t x bits
  pub nth : ℕ
  pub here : x ≡ nth * 2 ^ bits

module _ (t : Table) where
  pub slotted-lo : {x c : ℕ} → Slotted t x c → t.start_bits ≤ c
  slotted-lo (top q b r T l h e) = T.lo
  slotted-lo (sub q b r T l h e s) = slotted-lo s

  top-hi : {q c : ℕ} (r b : ℕ) → Top t q c → t.start_bits ≤ b → q * 2 ^ c + r < 2 ^ b → c ≤ b
  top-hi {q} {c} r b T l h = grind (arith, T.hi, pow_pos, pow_mono {i = b} {j = c})

  pub slotted-hi : {x c : ℕ} → Slotted t x c → (b : ℕ) → t.start_bits ≤ b → x < 2 ^ b → c ≤ b
  slotted-hi (top q b r T l h e) k lo u = top-hi r k T lo (rw e at u)
  slotted-hi (sub q b r T l h e s) k lo u =
      omega (arith, top-hi r k T lo (rw e at u), slotted-hi s b T.lo h)

  module _ (good : t.start_bits ≤ t.direct_bits) where
    pub top_start : (q b : ℕ) → Top t q b → Start t (q * 2 ^ b)
    top_start q b T =
        let e : q * 2 ^ b ≡ q * 2 ^ b + 0 = omega arith in
        elim (cases_lt t.direct_bits b) [
          | inl l ↦ record {
            bits = t.start_bits;
            slotted = sub q b 0 T l (pow_pos b) e (slotted-zero-at t 0 good (pow_pos t.start_bits));
            nth = q * 2 ^ (b - t.start_bits) + 0;
            here = omega (arith, join q b t.start_bits 0 T.lo);
          }
          | inr l ↦ record { bits = b; slotted = top q b 0 T l (pow_pos b) e; nth = q; here = refl }
        ]

    top-next : (q b : ℕ) → Top t q b → Start t (suc q * 2 ^ b)
    top-next q b T =
        let lo = T.lo in
        let up = T.up in
        elim (cases_lt (suc q) (2 ^ suc t.width_bits)) [
          | inl l ↦ top_start (suc q) b (record { lo = T.lo; up = l; hi = λ g. omega (arith, T.hi g) })
          | inr l ↦
              let e : suc q * 2 ^ b ≡ 2 ^ t.width_bits * 2 ^ suc b =
              (let w : suc q ≡ 2 ^ suc t.width_bits = omega arith in ap (λ (y : ℕ). y * 2 ^ b) w)
              ∙ carry t.width_bits b in
              let T' : Top t (2 ^ t.width_bits) (suc b) =
              record { lo = omega arith; up = pow-lt (omega arith); hi = λ g. omega arith } in
              subst (Start t) (sym e) (top_start (2 ^ t.width_bits) (suc b) T')
        ]

    -- the slot after the one that begins at x begins where that one ends
    pub next : {x c : ℕ} → Slotted t x c → (k : ℕ) → x ≡ k * 2 ^ c → Start t (x + 2 ^ c)
    next {x} (top q b r T l h e) k p =
        let d = same_from_place q r k 0 (2 ^ b) h (pow_pos b) (omega arith) in
        let w : suc q * 2 ^ b ≡ x + 2 ^ b = omega (arith, d) in
        subst (Start t) w (top-next q b T)
    next {x} {c} (sub q b r T l h e s) k p =
        let cb : c ≤ b = slotted-hi s b T.lo h in
        let ps : 2 ^ b ≡ 2 ^ (b - c) * 2 ^ c = pow-split cb in
        let m : (q * 2 ^ (b - c)) * 2 ^ c ≡ q * 2 ^ b = grind (arith, ps) in
        let d = part (q * 2 ^ (b - c)) k c r (omega arith) in
        let rd : r ≡ d.0 * 2 ^ c = d.1 in
        let n = next s d.0 d.1 in
        elim (cases_lt (r + 2 ^ c) (2 ^ b)) [
          | inl u ↦
              let w : x + 2 ^ c ≡ q * 2 ^ b + (r + 2 ^ c) = omega arith in
              record {
                bits = n.bits;
                slotted = sub {c = n.bits} q b (r + 2 ^ c) T l u w n.slotted;
                nth = q * 2 ^ (b - n.bits) + n.nth;
                here = omega (arith, n.here, join q b n.bits n.nth (slotted-hi {c = n.bits} n.slotted b T.lo u));
              }
          | inr u ↦
              let z = step-below d.0 (2 ^ (b - c)) c (omega arith) in
              let w : suc q * 2 ^ b ≡ x + 2 ^ c = omega arith in
              subst (Start t) w (top-next q b T)
        ]

-- ---- the offsets of a slot

module _ (t : Table) where
  -- every offset of a slot has the slot
  pub same-slot : {x c : ℕ} → Slotted t x c → (k y : ℕ) → x ≡ k * 2 ^ c → y < 2 ^ c → Slotted t (x + y) c
  same-slot {x} (top q b r T l h e) k y p u =
      top q b y T l u (omega (arith, same_from_place q r k 0 (2 ^ b) h (pow_pos b) (omega arith)))
  same-slot {x} {c} (sub q b r T l h e s) k y p u =
      let cb : c ≤ b = slotted-hi t s b T.lo h in
      let ps : 2 ^ b ≡ 2 ^ (b - c) * 2 ^ c = pow-split cb in
      let m : (q * 2 ^ (b - c)) * 2 ^ c ≡ q * 2 ^ b = grind (arith, ps) in
      let d = part (q * 2 ^ (b - c)) k c r (omega arith) in
      let rd : r ≡ d.0 * 2 ^ c = d.1 in
      let z = step-below d.0 (2 ^ (b - c)) c (omega arith) in
      sub q b (r + y) T l (omega arith) (omega arith) (same-slot s d.0 y rd u)

  -- the slot that holds x holds its own start
  down : {x c : ℕ} → Slotted t x c → (m s : ℕ) → x ≡ m * 2 ^ c + s → s < 2 ^ c → Slotted t (m * 2 ^ c) c
  down (top q b r T l h e) m s p u =
      let z : q ≡ m = (same_from_place q r m s (2 ^ b) h u (sym e ∙ p)).0 in
      top q b 0 T l (pow_pos b) (rw z (omega arith))
  down {x} {c} (sub q b r T l h e i) m s p u =
      let cb : c ≤ b = slotted-hi t i b T.lo h in
      let m' = r / 2 ^ c in
      let s' = r % 2 ^ c in
      let sp : m' * 2 ^ c + s' ≡ r = shr_split r c in
      let us : s' < 2 ^ c = mod-lt r (pow_pos c) in
      let j : q * 2 ^ b + m' * 2 ^ c ≡ (q * 2 ^ (b - c) + m') * 2 ^ c = join q b c m' cb in
      let z : q * 2 ^ (b - c) + m' ≡ m =
      (same_from_place (q * 2 ^ (b - c) + m') s' m s (2 ^ c) us u (omega arith)).0 in
      let w : m * 2 ^ c ≡ q * 2 ^ b + m' * 2 ^ c = grind (arith, z) in
      sub q b (m' * 2 ^ c) T l (omega arith) w (down i m' s' (sym sp) us)

  pub slot-some : (c : ℕ) → 0 < (slot_at t c).size
  slot-some c = pow_pos (slot_bits t c)

  -- a slot ends past what it holds
  pub end-gt : (c : ℕ) → c < slot_end (slot_at t c)
  end-gt c = lt-div-mul-add (pow_pos (slot_bits t c))

  -- and no later than the heap
  pub end-le : (c : ℕ) → t.start_bits ≤ t.direct_bits → t.start_bits ≤ t.heap_bits → c < 2 ^ t.heap_bits
      → slot_end (slot_at t c) ≤ 2 ^ t.heap_bits
  end-le c g k h =
      let b = slot_bits t c in
      let bl : b ≤ t.heap_bits = slotted-hi t (slot-bits-is t c g h) t.heap_bits k h in
      let ps : 2 ^ t.heap_bits ≡ 2 ^ (t.heap_bits - b) * 2 ^ b = pow-split bl in
      let lo : c / 2 ^ b * 2 ^ b ≤ c = div-mul-le_self c (2 ^ b) in
      omega (arith, step-below (c / 2 ^ b) (2 ^ (t.heap_bits - b)) b (omega arith))

module _ (t : Table) (g : t.start_bits ≤ t.direct_bits) (k : t.start_bits ≤ t.heap_bits) where
  pub start-bits : (c : ℕ) (s : Start t c) → c < 2 ^ t.heap_bits → s.bits ≡ slot_bits t c
  start-bits c s h = slotted-unique t s.slotted c (slot_bits t c) refl (slot-bits-is t c g h)

  -- at a slot's start the slot begins there
  pub start-here : (c : ℕ) → Start t c → c < 2 ^ t.heap_bits → (slot_at t c).start ≡ c
  start-here c s h =
      let b = slot_bits t c in
      let x : c ≡ s.nth * 2 ^ b = s.here ∙ ap (λ (y : ℕ). s.nth * 2 ^ y) (start-bits c s h) in
      ap (λ (y : ℕ). y / 2 ^ b * 2 ^ b) x ∙ ap (λ (y : ℕ). y * 2 ^ b) (mul-div_cancel s.nth (pow_pos b)) ∙ sym x

  pub start-next : (c : ℕ) → Start t c → c < 2 ^ t.heap_bits → Start t (slot_end (slot_at t c))
  start-next c s h =
      let e : c + 2 ^ s.bits ≡ slot_end (slot_at t c) = grind (arith, start-bits c s h, start-here c s h) in
      subst (Start t) e (next t g s.slotted s.nth s.here)

  -- the slot of any offset begins where a slot begins, and it is the slot that is found there
  pub slot-start : (c : ℕ) → c < 2 ^ t.heap_bits → Start t (slot_at t c).start
  slot-start c h =
      let b = slot_bits t c in
      record {
        bits = b;
        slotted = down t (slot-bits-is t c g h) (c / 2 ^ b) (c % 2 ^ b) (sym (shr_split c b)) (mod-lt c (pow_pos b));
        nth = c / 2 ^ b;
        here = refl;
      }

  pub slot-again : (c : ℕ) → c < 2 ^ t.heap_bits → slot_bits t (slot_at t c).start ≡ slot_bits t c
  unfolding slot-start
  slot-again c h =
      let b = slot_bits t c in
      let lo : c / 2 ^ b * 2 ^ b ≤ c = div-mul-le_self c (2 ^ b) in
      sym (start-bits (c / 2 ^ b * 2 ^ b) (slot-start c h) (omega (arith, lo, h)))

  -- where the slot of any offset ends, the next begins
  pub end-start : (c : ℕ) → c < 2 ^ t.heap_bits → Start t (slot_end (slot_at t c))
  unfolding slot-start
  end-start c h = next t g (slot-start c h).slotted (c / 2 ^ slot_bits t c) refl

  -- no slot begins inside another
  pub apart : (c b : ℕ) → Start t c → Start t b → c < 2 ^ t.heap_bits → c < b → slot_end (slot_at t c) ≤ b
  apart c b s r h l =
      let e = start-here c s h in
      let sb = start-bits c s h in
      let inside : b < c + 2 ^ s.bits → ⊥ = λ u.
      let y = b - c in
      let xe : c + y ≡ b = omega arith in
      let same = same-slot t s.slotted s.nth y s.here (omega arith) in
      let bb : s.bits ≡ r.bits = slotted-unique t same b r.bits xe r.slotted in
      let rh : b ≡ r.nth * 2 ^ s.bits = grind (arith, r.here, bb) in
      let sh = s.here in
      let d = part s.nth r.nth s.bits y (omega arith) in
      let de : y ≡ d.0 * 2 ^ s.bits = d.1 in
      omega (arith, step-below 0 d.0 s.bits (omega arith)) in
      grind (arith, inside, sb)
