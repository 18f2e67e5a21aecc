-- The slots that descent finds (`slot_bits`, `slot_at`) are those of the format's own rule (`Direct`).
use Rattle.std.proofs.Common.{ℕ, suc, ◌+◌, ◌-◌, ◌*◌, ◌/◌, ◌%◌, ◌^◌, ◌≤◌, ◌<◌, ◌≡◌, sym, ap, ◌∙◌, subst₂, inl}
use Rattle.std.proofs.Common.{inr}
use Rattle.std.proofs.Common.{Bool, true, mod-lt, mul-le-mul_right, pow_mono, arith}
use Rattle.std.proofs.lemmas.Bool.{cases_lt, le-leb, leb-true}
use Rattle.std.proofs.lemmas.Nat.{pow_pos, pow-add, mod_low, shr_high, shr_split}
use Rattle.std.specs.Prelude.{nat_le}
use Rattle.table.specs.Table.{Table, fixed, row_bits, row_offset, max_rows}
use Rattle.table.specs.Slots.{Direct, own, inner, slot_bits, slot_at}
use Rattle.table.proofs.Powers.{join}
use Rattle.table.proofs.Rows.{Top, row, row-mono, row_below, slot-rows}
use Rattle.table.proofs.Slots.{Slotted, top, sub, Start, slotted-unique, slotted-lo, slotted-hi, slot-bits-is}
use Rattle.table.proofs.Slots.{same-slot, start-bits, start-here, end-le, apart}
use Rattle.table_laws.specs.Count.{InBody}

-- the rows of the largest root span the heap
pub heap-span : (t : Table) → t.start_bits + t.width_bits ≤ t.heap_bits → row_offset t (max_rows t) ≡ 2 ^ t.heap_bits
heap-span t k =
    let a = t.start_bits + t.width_bits in
    ap (row_offset t) (let e : t.heap_bits - a + 1 ≡ suc (t.heap_bits - a) = omega arith in e)
    ∙ ap (λ (y : ℕ). 2 ^ y) (let e : a + (t.heap_bits - a) ≡ t.heap_bits = omega arith in e)

-- a slot at s of z bytes in n rows, by descent: it begins at a multiple of its size
pub record Local (t : Table) (n s z : ℕ) : Type 0 where
  pub bits : ℕ
  pub slotted : Slotted t s bits
  pub nth : ℕ
  pub here : s ≡ nth * 2 ^ bits
  pub size_is : z ≡ 2 ^ bits
  pub inside : s + z ≤ row_offset t n

-- the slot that descent finds at s begins there, in the heap, and has z bytes
pub record SlotOf (t : Table) (s z : ℕ) : Type 0 where
  pub starts : Start t s
  pub inside : s < 2 ^ t.heap_bits
  pub size_is : z ≡ (slot_at t s).size

-- x lies past the header of h bytes of the slot that holds it
abbrev pub in_body : Table → ℕ → ℕ → Bool
in_body t h x = nat_le h (x % 2 ^ slot_bits t x)

module _ (t : Table) (g : t.start_bits ≤ t.direct_bits) where
  -- every offset of a slot lies as far past the start as its remainder by the slot's size
  past-start : {s c : ℕ} → Slotted t s c → (k x : ℕ) → s ≡ k * 2 ^ c → s ≤ x → x < s + 2 ^ c → x < 2 ^ t.heap_bits
      → x % 2 ^ slot_bits t x ≡ x - s
  past-start {s} {c} S k x e lo hi u =
      let y = x - s in
      let xe : s + y ≡ x = omega arith in
      let same = same-slot t S k y e (omega arith) in
      let xc : slot_bits t x ≡ c = sym (slotted-unique t same x (slot_bits t x) xe (slot-bits-is t x g u)) in
      let xm : x ≡ k * 2 ^ c + y = omega arith in
      ap (λ (b : ℕ). x % 2 ^ b) xc ∙ ap (λ (b : ℕ). b % 2 ^ c) xm ∙ mod_low k c y (omega arith)

  -- past the header of a slot is in a body
  pub slot-body : (h x : ℕ) {s z : ℕ} → t.start_bits ≤ t.heap_bits → SlotOf t s z → s + h ≤ x → x < s + z
      → in_body t h x ≡ true
  slot-body h x {s} {z} k S lo hi =
      let B = S.starts in
      let i = S.inside in
      let e = S.size_is in
      let st = start-here t g k s B i in
      let en = end-le t s g k i in
      let bs = ap (λ (y : ℕ). 2 ^ y) (start-bits t g k s B i) in
      let m = past-start B.slotted B.nth x B.here (omega arith) (omega arith) (omega arith) in
      le-leb h (x % 2 ^ slot_bits t x) (omega arith)

  -- a slot has at least the starting size
  pub slot-least : {s z : ℕ} → SlotOf t s z → 2 ^ t.start_bits ≤ z
  slot-least {s} S =
      omega (arith, S.size_is, pow_mono (slotted-lo t (slot-bits-is t s g S.inside)))

  -- two slots that hold the same offset begin at the same place
  pub slots-meet : {s z b y : ℕ} (x : ℕ) → t.start_bits ≤ t.heap_bits → SlotOf t s z → SlotOf t b y
      → s ≤ x → x < s + z → b ≤ x → x < b + y → s ≡ b
  slots-meet {s} {z} {b} {y} x k S B s1 s2 b1 b2 =
      let e1 = S.size_is in
      let e2 = B.size_is in
      let h1 = start-here t g k s S.starts S.inside in
      let h2 = start-here t g k b B.starts B.inside in
      let n1 : ¬ (s < b) = λ l. omega (arith, apart t g k s b S.starts B.starts S.inside l) in
      let n2 : ¬ (b < s) = λ l. omega (arith, apart t g k b s B.starts S.starts B.inside l) in
      omega arith

module _ (t : Table) (g : t.start_bits ≤ t.direct_bits) (w : t.width_bits + t.start_bits ≤ suc t.direct_bits) where
  -- the slots of a row end in the rows
  in_rows : (n r c : ℕ) → r < n → c < 2 ^ t.width_bits → row_offset t r + suc c * 2 ^ row_bits t r ≤ row_offset t n
  in_rows n r c l u = omega (arith, row-mono t (suc r) n l, (row t r).ends, mul-le-mul_right (2 ^ row_bits t r) u)

  -- from the format's rule to the descent
  pub direct-local : {n s z : ℕ} → Direct t n s z → Local t n s z
  direct-local {n} {s} {z} (own r c l d u e f) =
      let b = row_bits t r in
      let R = row t r in
      let m = R.m in
      let at = R.begins in
      let se : s ≡ (m + c) * 2 ^ b = omega arith in
      record {
        bits = b;
        slotted = top (m + c) b 0 (R.tops c u) d (pow_pos b) (omega arith);
        nth = m + c;
        here = se;
        size_is = f;
        inside = omega (arith, in_rows n r c l u);
      }
  direct-local {n} {s} {z} (inner r c s' l d u e D) =
      let b = row_bits t r in
      let R = row t r in
      let m = R.m in
      let at = R.begins in
      let T = R.tops c u in
      let I = direct-local D in
      let i = I.inside in
      let rows : 2 ^ b ≡ row_offset t (r - t.width_bits) = slot-rows t r g w d in
      let small : s' < 2 ^ b = omega (arith, I.size_is, pow_pos I.bits) in
      let se : s ≡ (m + c) * 2 ^ b + s' = omega arith in
      record {
        bits = I.bits;
        slotted = sub {c = I.bits} (m + c) b s' T d small se I.slotted;
        nth = (m + c) * 2 ^ (b - I.bits) + I.nth;
        here = omega (arith, I.here, join (m + c) b I.bits I.nth (slotted-hi t I.slotted b T.lo small));
        size_is = I.size_is;
        inside = omega (arith, in_rows n r c l u);
      }

  -- a block of the table is in a row, at a column
  record InRow (q b : ℕ) : Type 0 where
    r : ℕ
    c : ℕ
    col : c < 2 ^ t.width_bits
    bits_is : row_bits t r ≡ b
    at : row_offset t r + c * 2 ^ b ≡ q * 2 ^ b

  in_row : (q b : ℕ) → Top t q b → InRow q b
  in_row q b T =
      let lo = T.lo in
      let up = T.up in
      elim (cases_lt q (2 ^ t.width_bits)) [
        | inl l ↦
            let n : ¬ (t.start_bits < b) = λ v. omega (arith, T.hi v) in
            record { r = 0; c = q; col = l; bits_is = omega arith; at = omega arith }
        | inr l ↦
            let e : 2 ^ (t.start_bits + t.width_bits + (b - t.start_bits)) ≡ 2 ^ t.width_bits * 2 ^ b =
            (let e : t.start_bits + t.width_bits + (b - t.start_bits) ≡ t.width_bits + b = omega arith in
            ap (λ (k : ℕ). 2 ^ k) e)
            ∙ pow-add 2 t.width_bits b in
            let p : q * 2 ^ b ≡ (2 ^ t.width_bits + (q - 2 ^ t.width_bits)) * 2 ^ b =
            ap (λ (k : ℕ). k * 2 ^ b) (omega arith) in
            record {
              r = suc (b - t.start_bits);
              c = q - 2 ^ t.width_bits;
              col = omega arith;
              bits_is = omega arith;
              at = omega arith;
            }
      ]

  -- and back: what descent finds below the end of n rows is a slot of them
  pub slotted-direct : {x c : ℕ} → Slotted t x c → (n : ℕ) → x < row_offset t n → Direct t n (x / 2 ^ c * 2 ^ c) (2 ^ c)
  slotted-direct {x} (top q b r T l h e) n u =
      let P = in_row q b T in
      let s : x / 2 ^ b ≡ q = rw e (shr_high q b r h) in
      let at = P.at in
      let here : x / 2 ^ b * 2 ^ b ≡ row_offset t P.r + P.c * 2 ^ row_bits t P.r = rw s (rw P.bits_is (sym P.at)) in
      own P.r P.c (row_below t P.r n x (omega arith) u) (omega (arith, P.bits_is)) P.col here
      (ap (λ (k : ℕ). 2 ^ k) (sym P.bits_is))
  slotted-direct {x} {c} (sub q b r T l h e s) n u =
      let P = in_row q b T in
      let at = P.at in
      let d : t.direct_bits < row_bits t P.r = omega (arith, P.bits_is) in
      let pb : 2 ^ row_bits t P.r ≡ 2 ^ b = ap (λ (k : ℕ). 2 ^ k) P.bits_is in
      let rows = slot-rows t P.r g w d in
      let k = q * 2 ^ (b - c) + r / 2 ^ c in
      let j : q * 2 ^ b + r / 2 ^ c * 2 ^ c ≡ k * 2 ^ c = join q b c (r / 2 ^ c) (slotted-hi t s b T.lo h) in
      let xe : x ≡ k * 2 ^ c + r % 2 ^ c = omega (arith, shr_split r c) in
      let xq : x / 2 ^ c ≡ k = rw xe (shr_high k c (r % 2 ^ c) (mod-lt r (pow_pos c))) in
      let xs : x / 2 ^ c * 2 ^ c ≡ row_offset t P.r + P.c * 2 ^ row_bits t P.r + r / 2 ^ c * 2 ^ c =
      rw xq (rw P.bits_is (omega arith)) in
      inner P.r P.c (r / 2 ^ c * 2 ^ c) (row_below t P.r n x (omega arith) u) d P.col xs
      (slotted-direct s (P.r - t.width_bits) (omega arith))

  -- the test `in_body` passes the bodies of the slots of n rows, and below their end nothing else
  pub body-in : (h n x : ℕ) → row_offset t (suc n) ≤ 2 ^ t.heap_bits → InBody t h (suc n) x
      → (x < row_offset t (suc n)) × (in_body t h x ≡ true)
  body-in h n x u B =
      let L = direct-local B.slot in
      let from = B.past_header in
      let to = B.before_end in
      let i = L.inside in
      let e = L.size_is in
      let m = past-start t g L.slotted L.nth x L.here (omega arith) (omega arith) (omega arith) in
      (omega arith, le-leb h (x % 2 ^ slot_bits t x) (omega arith))

  pub body-out : (h n x : ℕ) → row_offset t (suc n) ≤ 2 ^ t.heap_bits → x < row_offset t (suc n) → in_body t h x ≡ true
      → InBody t h (suc n) x
  body-out h n x u l e =
      let c = slot_bits t x in
      let s = slot-bits-is t x g (omega arith) in
      let k = leb-true h (x % 2 ^ c) e in
      let p = shr_split x c in
      record {
        start = x / 2 ^ c * 2 ^ c;
        size = 2 ^ c;
        slot = slotted-direct s (suc n) l;
        past_header = omega arith;
        before_end = omega (arith, mod-lt x (pow_pos c));
      }

  module _ (k : t.start_bits + t.width_bits ≤ t.heap_bits) where
    -- the direct slots of the heap are those that descent finds
    pub direct-start : {s z : ℕ} → Direct t (max_rows t) s z → SlotOf t s z
    direct-start {s} {z} D =
        let L = direct-local D in
        let e = L.size_is in
        let i : s < 2 ^ t.heap_bits = omega (arith, L.inside, heap-span t k, pow_pos L.bits) in
        let S : Start t s = record { bits = L.bits; slotted = L.slotted; nth = L.nth; here = L.here } in
        record { starts = S; inside = i; size_is = e ∙ ap (λ (y : ℕ). 2 ^ y) (start-bits t g (omega arith) s S i) }

    pub start-direct : {s z : ℕ} → SlotOf t s z → Direct t (max_rows t) s z
    start-direct {s} {z} S =
        let i = S.inside in
        subst₂ (Direct t (max_rows t)) (start-here t g (omega arith) s S.starts i) (sym S.size_is)
        (slotted-direct (slot-bits-is t s g i) (max_rows t) (omega (arith, heap-span t k)))

-- ---- the fixed table, whose largest root has 29 rows

pub fixed-slot : {s z : ℕ} → Direct fixed 29 s z → SlotOf fixed s z
fixed-slot D = direct-start fixed (omega arith) (omega arith) (omega arith) D

pub slot-fixed : {s z : ℕ} → SlotOf fixed s z → Direct fixed 29 s z
slot-fixed S = start-direct fixed (omega arith) (omega arith) (omega arith) S
