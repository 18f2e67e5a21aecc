-- The slots of an indirect block, by row and column, at any table.
use Rattle.std.proofs.lemmas.Nat.{rows}
use Rattle.std.proofs.Common.{add-zero, ℕ, zero, suc, ◌+◌, ◌-◌, ◌*◌, ◌^◌, ◌≤◌, ◌<◌, ◌≡◌, sym, ap, subst, subst₂, List}
use Rattle.std.proofs.Common.{[], ◌∷◌}
use Rattle.std.proofs.Common.{◌++◌, arith, mul-le-mul_right, replicate, pow_pos}
use Rattle.std.proofs.Math.Nat.{sub-zero}
use Rattle.table.specs.Table.{Table, row_bits, row_offset}
use Rattle.table.specs.Slots.{Direct, own, inner}
use Rattle.table.proofs.Rows.{row, row-mono, row_one, slot-rows}
use Rattle.table.proofs.Slots.{slot-bits-is, start-here}
use Rattle.table_laws.proofs.Format.{SlotOf, direct-local, slotted-direct}
use Rattle.region_indirects.specs.Walk.{rows_of_slots}

-- where the slot of row r and column c begins in its block
abbrev pub cell : Table → ℕ → ℕ → ℕ
cell t r c = row_offset t r + c * 2 ^ row_bits t r

-- a slot of row r begins at a heap offset, in a block of n rows that begins at `base`
pub record SlotAt (t : Table) (n base r at : ℕ) : Type 0 where
  pub row_in : r < n
  pub col : ℕ
  pub col-in : col < 2 ^ t.width_bits
  pub is : at ≡ base + cell t r col

-- rs are the rows of the slots of that block from a heap offset on, slot by slot, to its end
pub data Ahead (t : Table) (n base : ℕ) : ℕ → List ℕ → Type 0 where
  done : {at : ℕ} → at ≡ base + row_offset t n → Ahead t n base at []
  slot_of : {at r : ℕ} {rs : List ℕ} → SlotAt t n base r at → Ahead t n base (at + 2 ^ row_bits t r) rs
      → Ahead t n base at (r ∷ rs)

module _ (t : Table) where
  pub cell-end : (r c : ℕ) → c < 2 ^ t.width_bits → cell t r c + 2 ^ row_bits t r ≤ row_offset t (suc r)
  cell-end r c u =
      let k : suc c * 2 ^ row_bits t r ≤ 2 ^ t.width_bits * 2 ^ row_bits t r = mul-le-mul_right (2 ^ row_bits t r) u in
      omega (arith, (row t r).ends)

  -- a slot ends in its block
  pub slot-end : {n base r at : ℕ} → SlotAt t n base r at → at + 2 ^ row_bits t r ≤ base + row_offset t n
  slot-end {n} {base} {r} S =
      let e = S.is in
      let k = cell-end r S.col S.col-in in
      let m = row-mono t (suc r) n S.row_in in
      omega arith

  -- the slots of a row from column c on, and the rows after it
  row-ahead : (n base r m c at : ℕ) (rs : List ℕ) → r < n → c + m ≡ 2 ^ t.width_bits → at ≡ base + cell t r c
      → Ahead t n base (base + row_offset t (suc r)) rs → Ahead t n base at (replicate m r ++ rs)
  row-ahead n base r zero c at rs l e q A =
      let all : c ≡ 2 ^ t.width_bits = omega arith in
      let wide = ap (λ j. j * 2 ^ row_bits t r) all in
      let next : base + row_offset t (suc r) ≡ at = omega (arith, (row t r).ends) in
      rw next at A
  row-ahead n base r (suc m) c at rs l e q A =
      slot_of (record { row_in = l; col = c; col-in = omega arith; is = q })
      (row-ahead n base r m (suc c) (at + 2 ^ row_bits t r) rs l (omega arith) (omega arith) A)

  rows-ahead : (n base m r : ℕ) → r + m ≡ n → Ahead t n base (base + row_offset t r) (rows_of_slots t m r)
  unfolding rows_of_slots
  rows-ahead n base zero r e = let all : r ≡ n = omega arith in done (ap (λ j. base + row_offset t j) all)
  rows-ahead n base (suc m) r e =
      row-ahead n base r (2 ^ t.width_bits) 0 (base + row_offset t r) (rows_of_slots t m (suc r)) (omega arith)
      (omega arith) (omega arith) (rows-ahead n base m (suc r) (omega arith))

  -- all slots of a block
  pub all-ahead : (n base : ℕ) → Ahead t n base base (rows_of_slots t n 0)
  all-ahead n base =
      rw add-zero at (rows-ahead n base n 0 (omega arith))

  -- an offset lies in one slot only
  col-one : (b c d y : ℕ) → c * b ≤ y → y < d * b + b → c ≤ d
  col-one b c d y l u = grind (arith, rows)

  same-cell : (r c q d y : ℕ) → c < 2 ^ t.width_bits → d < 2 ^ t.width_bits → cell t r c ≤ y
      → y < cell t r c + 2 ^ row_bits t r → cell t q d ≤ y → y < cell t q d + 2 ^ row_bits t q → (r ≡ q) × (c ≡ d)
  same-cell r c q d y u v a b e f =
      let k = cell-end r c u in
      let m = cell-end q d v in
      let i = row_one t y r q (omega arith) (omega arith) in
      let j = row_one t y q r (omega arith) (omega arith) in
      let z : r ≡ q = omega arith in
      let e2 : cell t r d ≤ y = subst (λ (o : ℕ). cell t o d ≤ y) (sym z) e in
      let f2 : y < cell t r d + 2 ^ row_bits t r = subst (λ (o : ℕ). y < cell t o d + 2 ^ row_bits t o) (sym z) f in
      let g = col-one (2 ^ row_bits t r) c d (y - row_offset t r) (omega arith) (omega arith) in
      let h = col-one (2 ^ row_bits t r) d c (y - row_offset t r) (omega arith) (omega arith) in
      (z, omega arith)

-- what a direct slot of z bytes at y is that begins in the slot of row r and column c: that slot itself, or one
-- of the block in it
record InCell (t : Table) (r c y z : ℕ) : Type 0 where
  own_is : row_bits t r ≤ t.direct_bits → (y ≡ cell t r c) × (z ≡ 2 ^ row_bits t r)
  inner-is : t.direct_bits < row_bits t r → Direct t (r - t.width_bits) (y - cell t r c) z

-- a block of n rows at a heap offset: the heap's direct slots there are its own
pub record BlockAt (t : Table) (n at : ℕ) : Type 0 where
  pub direct : (s z : ℕ) → SlotOf t s z → at ≤ s → s < at + row_offset t n → Direct t n (s - at) z

module _ (t : Table) (g : t.start_bits ≤ t.direct_bits) (wd : t.width_bits + t.start_bits ≤ suc t.direct_bits) where
  -- an indirect slot is filled by its rows
  pub inner-span : (r : ℕ) → t.direct_bits < row_bits t r → row_offset t (r - t.width_bits) ≡ 2 ^ row_bits t r
  inner-span r d = sym (slot-rows t r g wd d)

  in_cell : {n y z : ℕ} → Direct t n y z → (r c : ℕ) → c < 2 ^ t.width_bits → cell t r c ≤ y
      → y < cell t r c + 2 ^ row_bits t r → InCell t r c y z
  in_cell {n} {y} {z} (own q d l b u e f) r c v lo hi =
      let p = pow_pos (row_bits t q) in
      let s = same-cell t q d r c y u v (omega arith) (omega arith) lo hi in
      subst₂ (λ (i j : ℕ). InCell t i j y z) s.0 s.1
      (record { own_is = λ _. (e, f); inner-is = λ x. absurd (omega arith) })
  in_cell {n} {y} {z} (inner q d y' l b u e D) r c v lo hi =
      let L = direct-local t g wd D in
      let i = L.inside in
      let k = L.size_is in
      let p = pow_pos L.bits in
      let a = inner-span q b in
      let s = same-cell t q d r c y u v (omega arith) (omega arith) lo hi in
      let o : y' ≡ y - cell t q d = omega arith in
      subst₂ (λ (i j : ℕ). InCell t i j y z) s.0 s.1
      (record {
        own_is = λ x. absurd (omega arith);
        inner-is =
            λ _. subst (λ (j : ℕ). Direct t (q - t.width_bits) j z) o D;
      })

  root-direct : (n s z : ℕ) → t.start_bits ≤ t.heap_bits → SlotOf t s z → s < row_offset t n → Direct t n s z
  root-direct n s z k S u =
      let i = S.inside in
      subst₂ (Direct t n) (start-here t g k s S.starts i) (sym S.size_is)
      (slotted-direct t g wd (slot-bits-is t s g i) n u)

  -- the root is a block
  pub root-block : (n : ℕ) → t.start_bits ≤ t.heap_bits → BlockAt t n 0
  root-block n k =
      record {
        direct =
            λ s z S l u. subst (λ (y : ℕ). Direct t n y z) (sym (sub-zero s)) (root-direct n s z k S (omega arith));
      }

  module _ {n base r at : ℕ} (B : BlockAt t n base) (C : SlotAt t n base r at) where
    begins-in : (s z : ℕ) → SlotOf t s z → at ≤ s → s < at + 2 ^ row_bits t r → InCell t r C.col (s - base) z
    begins-in s z S lo hi =
        let e = C.is in
        let m = slot-end t C in
        in_cell (B.direct s z S (omega arith) (omega arith)) r C.col C.col-in (omega arith) (omega arith)

    -- the direct slot that begins in a slot of a direct row is that slot
    pub own-slot : (s z : ℕ) → SlotOf t s z → row_bits t r ≤ t.direct_bits → at ≤ s → s < at + 2 ^ row_bits t r
        → (s ≡ at) × (z ≡ 2 ^ row_bits t r)
    own-slot s z S d lo hi = let e = C.is in let q = (begins-in s z S lo hi).own_is d in let q0 = q.0 in
        (omega arith, q.1)

    -- a slot of a later row is a block
    pub inner_block : t.direct_bits < row_bits t r → BlockAt t (r - t.width_bits) at
    inner_block d = record {
      direct = λ s z S lo hi.
          (let e = C.is in
          let q = (begins-in s z S lo (let k = inner-span r d in omega arith)).inner-is d in
          subst (λ (y : ℕ). Direct t (r - t.width_bits) y z)
          (let o : s - base - cell t r C.col ≡ s - at = omega arith in o) q);
    }
