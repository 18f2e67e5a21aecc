-- The descent through indirect blocks to an offset's direct slot, a level at a time.
use Rattle.std.proofs.Common.{ℕ, zero, suc, ◌+◌, ◌-◌, ◌*◌, ◌/◌, ◌%◌, ◌^◌, ◌≤◌, ◌<◌, ◌≡◌, zero-le, true, false, refl}
use Rattle.std.proofs.Common.{sym, ap, ◌∙◌}
use Rattle.std.proofs.Common.{arith, mod-lt, mul-le-mul_right, mul-le-mul_left, pow_mono}
use Rattle.std.proofs.Math.Nat.{mul-add-div_right}
use Rattle.std.proofs.Math.Pow.{pow-lt}
use Rattle.std.proofs.lemmas.Bool.{le-leb, lt-leb, leb-true, leb-false}
use Rattle.std.proofs.lemmas.Bool.Decides.{nat_tests}
use Rattle.std.proofs.lemmas.Nat.{pow_pos, shr_split, same_from_place}
use Rattle.std.specs.Prelude.{if◌then◌else◌, nat_le}
use Rattle.table.specs.Table.{Table, fixed, row_bits, row_offset, row_of}
use Rattle.table.specs.Slots.{slot_bits, slot_at, slot_start, table_slot, entered_bytes_in, entered_bytes}
use Rattle.table.specs.Sizes.{indirect_size}
use Rattle.table.specs.declared.Slot.{Slot}
use Rattle.table.specs.declared.TableSlot.{TableSlot}
use Rattle.table.proofs.Powers.{join}
use Rattle.table.proofs.Rows.{Top, heap-rows, top-row, row-le, row-29, row-of-is, slot-rows}
use Rattle.table.proofs.Slots.{Slotted, top, sub, top_unique, slotted-unique, slotted-hi, slot-bits-is}

module _ (t : Table) where
  inv-direct : {x c : ℕ} (q b r : ℕ) → Slotted t x c → Top t q b → b ≤ t.direct_bits → r < 2 ^ b
      → x ≡ q * 2 ^ b + r → c ≡ b
  inv-direct {x} q b r s T l h e = slotted-unique t s x b refl (top q b r T l h e)

  inv-sub : {x c : ℕ} (q b r : ℕ) → Slotted t x c → Top t q b → t.direct_bits < b → r < 2 ^ b
      → x ≡ q * 2 ^ b + r → Slotted t r c
  inv-sub q b r (top q' b' r' T' l' h' e') T l h e =
      let z : b ≡ b' = top_unique T T' h h' (sym e ∙ e') in absurd (omega arith)
  inv-sub {x} {c} q b r (sub q' b' r' T' l' h' e' s) T l h e =
      let z : b ≡ b' = top_unique T T' h h' (sym e ∙ e') in
      let d' : q * 2 ^ b + r ≡ q' * 2 ^ b + r' = grind (arith, z) in
      rw (same_from_place q r q' r' (2 ^ b) h (rw z h') d').1 s

-- ---- one look-up

-- the slot that holds x begins at or before it, in one of the root's rows
pub start-le : (x : ℕ) → slot_start fixed x ≤ x
start-le x = omega (arith, shr_split x (row_bits fixed (row_of fixed x)))

-- the offset rounded down to a multiple of its row's size gives the slot
pub slot_of_row : (x : ℕ) {row size : ℕ} → row ≡ row_of fixed x → size ≡ 2 ^ row_bits fixed row
    → ◌≡◌ {A = TableSlot} (record { row = row; start = x - x % size; size = size }) (table_slot fixed x)
slot_of_row x e s =
    let b = row_bits fixed (row_of fixed x) in
    let begins : x - x % 2 ^ b ≡ slot_start fixed x = omega (arith, shr_split x b) in
    rw s (rw e (ap (λ (y : ℕ). record { row = row_of fixed x; start = y; size = 2 ^ b }) begins))

pub size_of_row : {row size : ℕ} → row ≤ 29 → size ≡ 2 ^ row_bits fixed row → size ≤ 2 ^ 40
size_of_row {row} l s =
    let le : 2 ^ row_bits fixed row ≤ 2 ^ 40 = pow_mono {j = 40} (omega arith) in
    omega arith

-- what the test of the slot's row tells
pub direct-slot : (x : ℕ) {at : TableSlot} → at ≡ table_slot fixed x → true ≡ nat_le (row_bits fixed at.row) 16
    → row_bits fixed (row_of fixed x) ≤ 16
direct-slot x e l = leb-true _ _ (rw e at (sym l))

pub deep-slot : (x : ℕ) {at : TableSlot} → at ≡ table_slot fixed x → false ≡ nat_le (row_bits fixed at.row) 16
    → 16 < row_bits fixed (row_of fixed x)
deep-slot x e l = leb-false _ _ (rw e at (sym l))

-- below an indirect slot the rest of the offset is smaller than the slot, and so than what holds f bits
module _ (x : ℕ) (h : x < 2 ^ 40) (l : 16 < row_bits fixed (row_of fixed x)) where
  pub rest_is : x - slot_start fixed x ≡ x % 2 ^ row_bits fixed (row_of fixed x)
  rest_is = omega (arith, shr_split x (row_bits fixed (row_of fixed x)))

  pub start-ge : 2 ^ row_bits fixed (row_of fixed x) ≤ slot_start fixed x
  start-ge =
      let b = row_bits fixed (row_of fixed x) in
      let T = top-row fixed x (heap-rows fixed x h) in
      let m : 1 * 2 ^ b ≤ x / 2 ^ b * 2 ^ b = mul-le-mul_right (2 ^ b) (omega (arith, T.hi (omega arith))) in
      omega arith

  pub rest-lt : (f : ℕ) → x < 2 ^ suc f → x - slot_start fixed x < 2 ^ f
  rest-lt f u =
      let b = row_bits fixed (row_of fixed x) in
      let s = start-ge in
      let le = start-le x in
      let r = rest_is in
      let m : x % 2 ^ b < 2 ^ b = mod-lt x (pow_pos b) in
      let bf : b < suc f = grind (arith, pow_mono) in
      let bm : 2 ^ b ≤ 2 ^ f = pow_mono (omega arith) in
      omega arith

pub deep_start : (x : ℕ) {at : TableSlot} → at ≡ table_slot fixed x → x < 2 ^ 40
    → false ≡ nat_le (row_bits fixed at.row) 16 → 0 < at.start
deep_start x e h l =
    rw e (omega (arith, start-ge x h (deep-slot x e l), pow_pos (row_bits fixed (row_of fixed x))))

-- ---- `locate`

-- the slot of offset is that of x in the indirect block that begins x bytes before it
pub record Loc (offset x : ℕ) : Type 0 where
  pub heap : offset < 2 ^ 40
  pub slotted : Slotted fixed x (slot_bits fixed offset)
  pub nth : ℕ
  pub rest : offset ≡ nth * 2 ^ slot_bits fixed offset + x

pub loc_start : (offset : ℕ) → offset < 2 ^ 40 → Loc offset offset
loc_start o h = record { heap = h; slotted = slot-bits-is fixed o (omega arith) h; nth = 0; rest = omega arith }

module _ {o x : ℕ} (L : Loc o x) where
  pub loc_direct : row_bits fixed (row_of fixed x) ≤ 16
      → ◌≡◌ {A = Slot} (record { start = o - (x - slot_start fixed x); size = 2 ^ row_bits fixed (row_of fixed x) })
      (slot_at fixed o)
  loc_direct l =
      let b = row_bits fixed (row_of fixed x) in
      let c = slot_bits fixed o in
      let h : x < 2 ^ 40 = omega (arith, L.heap, L.rest) in
      let T = top-row fixed x (heap-rows fixed x h) in
      let r : x % 2 ^ b < 2 ^ b = mod-lt x (pow_pos b) in
      let e : c ≡ b = inv-direct fixed (x / 2 ^ b) b (x % 2 ^ b) L.slotted T l r (sym (shr_split x b)) in
      let oe : o ≡ L.nth * 2 ^ b + x = L.rest ∙ ap (λ (k : ℕ). L.nth * 2 ^ k + x) e in
      let d : o / 2 ^ b ≡ L.nth + x / 2 ^ b = rw oe (mul-add-div_right (pow_pos b) L.nth x) in
      let w : o - (x - x / 2 ^ b * 2 ^ b) ≡ o / 2 ^ b * 2 ^ b =
      omega (arith, ap (λ (k : ℕ). k * 2 ^ b) d, shr_split x b) in
      rw e (λ i. record { start = w i; size = 2 ^ b })

  pub loc_deeper : 16 < row_bits fixed (row_of fixed x) → Loc o (x - slot_start fixed x)
  loc_deeper l =
      let b = row_bits fixed (row_of fixed x) in
      let c = slot_bits fixed o in
      let h : x < 2 ^ 40 = omega (arith, L.heap, L.rest) in
      let T = top-row fixed x (heap-rows fixed x h) in
      let m : x % 2 ^ b < 2 ^ b = mod-lt x (pow_pos b) in
      let s : Slotted fixed (x % 2 ^ b) c =
      inv-sub fixed (x / 2 ^ b) b (x % 2 ^ b) L.slotted T l m (sym (shr_split x b)) in
      record {
        heap = L.heap;
        slotted = rw (rest_is x h l) s;
        nth = x / 2 ^ b * 2 ^ (b - c) + L.nth;
        rest = omega (arith, L.rest, start-le x, join (x / 2 ^ b) b c L.nth (slotted-hi fixed s b T.lo m));
      }

-- ---- the indirect blocks on the way

row-lt : (m n : ℕ) → m < n → row_offset fixed m < row_offset fixed n
row-lt m zero l = absurd (omega arith)
row-lt zero (suc n) l = pow_pos (12 + n)
row-lt (suc m) (suc n) l = pow-lt (omega arith)

-- an indirect slot's size gives its rows
pub rows-of-slot : (r : ℕ) → 16 < row_bits fixed r → r < 29 → row_of fixed (2 ^ row_bits fixed r) ≡ r - 2
rows-of-slot r l u =
    let rows = row-of-is fixed (row_offset fixed (r - 2)) (r - 2) (row-lt (r - 2) 41 (omega arith)) (omega arith)
    (row-lt (r - 2) (suc (r - 2)) (omega arith)) in
    ap (row_of fixed) (slot-rows fixed r (omega arith) (omega arith) l) ∙ rows

pub indirect-small : (w n : ℕ) → w ≤ 255 → n ≤ 40 → indirect_size fixed w n ≤ 2 ^ 18
indirect-small w n l u = let a : n * 4 * w ≤ n * 4 * 255 = mul-le-mul_left (n * 4) l in omega arith

entered-in-small : (w f e a x : ℕ) → w ≤ 255 → entered_bytes_in fixed w f e a x ≤ f * 2 ^ 18
unfolding entered_bytes_in
entered-in-small w zero e a x l = zero-le
entered-in-small w (suc f) e a x l =
    let one = indirect-small w (row_of fixed x - 2) l (omega (arith, row-le fixed x)) in
    let more = entered-in-small w f e (a + slot_start fixed x) (x - slot_start fixed x) l in
    grind (arith, nat_tests, one, more)

pub entered-small : (w e s : ℕ) → w ≤ 255 → entered_bytes fixed w e s ≤ 2 ^ 24
entered-small w e s l = omega (arith, entered-in-small w 40 e 0 s l)

-- what is counted so far, and what the block at base has still to add
pub record Entering (w e s total base x : ℕ) : Type 0 where
  pub fuel : ℕ
  pub enough : x < 2 ^ fuel
  pub heap : s < 2 ^ 40
  pub sum : base + x ≡ s
  pub rest : entered_bytes fixed w e s ≡ total + entered_bytes_in fixed w fuel e base x

pub entering-start : (w e s : ℕ) → s < 2 ^ 40 → Entering w e s 0 0 s
entering-start w e s h = record { fuel = 40; enough = h; heap = h; sum = omega arith; rest = omega arith }

module _ {w e s total base x : ℕ} (I : Entering w e s total base x) where
  none-entered : row_bits fixed (row_of fixed x) ≤ 16 → (f : ℕ) → entered_bytes_in fixed w f e base x ≡ 0
  unfolding entered_bytes_in
  none-entered l zero = refl
  none-entered l (suc f) = rw (le-leb (row_bits fixed (row_of fixed x)) 16 l, entered_bytes_in)

  pub entering-done : row_bits fixed (row_of fixed x) ≤ 16 → total ≡ entered_bytes fixed w e s
  entering-done l = omega (arith, I.rest, none-entered l I.fuel)

  module _ (l : 16 < row_bits fixed (row_of fixed x)) (here : ℕ) where
    one-entered : (f : ℕ)
        → here ≡ (if nat_le e (base + slot_start fixed x) then indirect_size fixed w (row_of fixed x - 2) else 0)
        → entered_bytes_in fixed w (suc f) e base x
        ≡ here + entered_bytes_in fixed w f e (base + slot_start fixed x) (x - slot_start fixed x)
    unfolding entered_bytes_in
    one-entered f p = rw (lt-leb (row_bits fixed (row_of fixed x)) 16 l, entered_bytes_in) (grind (arith, p))

    pub entering-more : here
        ≡ (if nat_le e (base + slot_start fixed x)
        then indirect_size fixed w (row_of fixed (2 ^ row_bits fixed (row_of fixed x))) else 0)
        → Entering w e s (total + here) (base + slot_start fixed x) (x - slot_start fixed x)
    entering-more p = go I.fuel I.enough I.rest
      where
        h : x < 2 ^ 40
        h = omega (arith, I.heap, I.sum)

        go : (f : ℕ) → x < 2 ^ f → entered_bytes fixed w e s ≡ total + entered_bytes_in fixed w f e base x
            → Entering w e s (total + here) (base + slot_start fixed x) (x - slot_start fixed x)
        go zero b r = absurd (omega (arith, start-ge x h l, start-le x, pow_pos (row_bits fixed (row_of fixed x))))
        go (suc f) b r =
            let one = one-entered f (rw (rows-of-slot (row_of fixed x) l (row-29 x h)) at p) in
            record {
              fuel = f;
              enough = rest-lt x h l f b;
              heap = I.heap;
              sum = omega (arith, I.sum, start-le x);
              rest = omega (arith, r, one);
            }
