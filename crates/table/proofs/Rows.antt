-- The rows of the table: they begin in order, and an offset has one row and one block in it.
use Rattle.std.proofs.Common.{ℕ, zero, suc, ◌+◌, ◌-◌, ◌*◌, ◌/◌, ◌%◌, ◌^◌, ◌≤◌, ◌<◌, ◌≡◌, zero-le, sym, ap, ◌∙◌}
use Rattle.std.proofs.Common.{add-suc, arith}
use Rattle.std.proofs.Math.Nat.{le-div_iff_mul-le, mul-add-div_right}
use Rattle.std.proofs.Math.Pow.{pow_mono, pow-lt, shr_lt}
use Rattle.std.proofs.lemmas.Bool.Decides.{nat_tests}
use Rattle.std.proofs.lemmas.Nat.{pow_pos, pow-add, shl_whole}
use Rattle.table.specs.Table.{Table, fixed, row_bits, row_offset, row_in, row_of, place_of}
use Rattle.table.specs.declared.RowCol.{RowCol}
use Rattle.table.specs.Slots.{slot_start}

module _ (t : Table) where
  row-in-le : (n x : ℕ) → row_offset t (row_in t n x) ≤ x
  unfolding row_in
  row-in-le zero x = zero-le
  row-in-le (suc n) x = grind (arith, nat_tests, row-in-le n x)

  row-in-lt : (n x : ℕ) → x < row_offset t (suc n) → x < row_offset t (suc (row_in t n x))
  unfolding row_in
  row-in-lt zero x h = h
  row-in-lt (suc n) x h = grind (arith, nat_tests, row-in-lt n x)

  row-in-most : (n x : ℕ) → row_in t n x ≤ n
  unfolding row_in
  row-in-most zero x = zero-le
  row-in-most (suc n) x = grind (arith, nat_tests, row-in-most n x)

  pub row-mono : (r s : ℕ) → r ≤ s → row_offset t r ≤ row_offset t s
  row-mono zero s l = zero-le
  row-mono (suc r) zero l = absurd (omega arith)
  row-mono (suc r) (suc s) l = pow_mono (omega arith)

  pub row_one : (x r s : ℕ) → row_offset t r ≤ x → x < row_offset t (suc s) → r ≤ s
  row_one x r s h l = grind (arith, row-mono (suc s) r)

  pub row_below : (r n x : ℕ) → row_offset t r ≤ x → x < row_offset t n → r < n
  row_below r n x l u = grind (arith, row-mono n r)

  -- the rows that `row_of` looks at reach past the heap's end
  pub heap-rows : (x : ℕ) → x < 2 ^ t.heap_bits → x < row_offset t (suc t.heap_bits)
  heap-rows x h = grind (arith, pow_mono)

  pub row-le : (x : ℕ) → row_of t x ≤ t.heap_bits
  row-le x = row-in-most t.heap_bits x

  pub row-lo : (x : ℕ) → row_offset t (row_of t x) ≤ x
  row-lo x = row-in-le t.heap_bits x

  pub row_up : (x : ℕ) → x < row_offset t (suc t.heap_bits) → x < row_offset t (suc (row_of t x))
  row_up x h = row-in-lt t.heap_bits x h

  pub row-of-is : (x r : ℕ) → x < row_offset t (suc t.heap_bits) → row_offset t r ≤ x → x < row_offset t (suc r)
      → row_of t x ≡ r
  row-of-is x r h l u =
      omega (arith, row_one x (row_of t x) r (row-lo x) u, row_one x r (row_of t x) l (row_up x h))

  pub row_lt : (x n : ℕ) → x < row_offset t n → row_of t x < n
  row_lt x n u = row_below (row_of t x) n x (row-lo x) u

-- q counts blocks of 2 ^ b bytes up to one of the table's own, which is in row 0, or at or past row 1 where
-- the blocks of a row begin at the 2 ^ width_bits-th
pub record Top (t : Table) (q b : ℕ) : Type 0 where
  pub lo : t.start_bits ≤ b
  pub up : q < 2 ^ suc t.width_bits
  pub hi : t.start_bits < b → 2 ^ t.width_bits ≤ q

-- row n begins at the m-th of its blocks, and has 2 ^ width_bits of them
pub record Row (t : Table) (n : ℕ) : Type 0 where
  pub m : ℕ
  pub begins : row_offset t n ≡ m * 2 ^ row_bits t n
  pub tops : (j : ℕ) → j < 2 ^ t.width_bits → Top t (m + j) (row_bits t n)
  pub ends : row_offset t (suc n) ≡ row_offset t n + 2 ^ t.width_bits * 2 ^ row_bits t n

module _ (t : Table) where
  -- the blocks of a later row span what the rows before it do
  row-span : (n : ℕ) → row_offset t (suc n) ≡ 2 ^ t.width_bits * 2 ^ row_bits t (suc n)
  row-span n = ap (λ (k : ℕ). 2 ^ k) (omega arith) ∙ pow-add 2 t.width_bits (t.start_bits + (suc n - 1))

  pub row : (n : ℕ) → Row t n
  row zero = record {
    m = 0;
    begins = omega arith;
    tops = λ j l. record { lo = omega arith; up = grind (arith, pow-lt); hi = λ z. absurd (omega arith) };
    ends = grind (arith, pow-add);
  }
  row (suc n) = record {
    m = 2 ^ t.width_bits;
    begins = row-span n;
    tops = λ j l. record { lo = omega arith; up = omega arith; hi = λ z. omega arith };
    ends = rw add-suc (omega (arith, row-span n));
  }

  -- an offset's row gives its block
  top-of-row : (r x : ℕ) → row_offset t r ≤ x → x < row_offset t (suc r)
      → Top t (x / 2 ^ row_bits t r) (row_bits t r)
  unfolding row
  top-of-row zero x l h = record {
    lo = omega arith;
    up = shr_lt (suc t.width_bits) (t.start_bits + (0 - 1)) (grind (arith, pow_mono));
    hi = λ g. absurd (let z : t.start_bits < t.start_bits = omega arith in omega arith);
  }
  top-of-row (suc r) x l h = record {
    lo = omega arith;
    up = shr_lt (suc t.width_bits) (t.start_bits + (suc r - 1)) (grind (arith, pow_mono));
    hi = λ g. grind (arith, le-div_iff_mul-le, pow_pos, (row (suc r)).begins);
  }

  pub top-row : (x : ℕ) → x < row_offset t (suc t.heap_bits)
      → Top t (x / 2 ^ row_bits t (row_of t x)) (row_bits t (row_of t x))
  top-row x h = top-of-row (row_of t x) x (row-lo t x) (row_up t x h)

  -- the row's start and the column's are the slot's
  pub slot-start-is : (x : ℕ)
      → row_offset t (row_of t x)
      + (x - row_offset t (row_of t x)) / 2 ^ row_bits t (row_of t x) * 2 ^ row_bits t (row_of t x)
      ≡ slot_start t x
  slot-start-is x =
      let r = row_of t x in
      let at = mul-add-div_right (pow_pos (row_bits t r)) (row r).m (x - row_offset t r) in
      grind (arith, row-lo t x, (row r).begins, at)

  -- an indirect slot of row r has r - width_bits rows
  pub slot-rows : (r : ℕ) → t.start_bits ≤ t.direct_bits → t.width_bits + t.start_bits ≤ suc t.direct_bits
      → t.direct_bits < row_bits t r → 2 ^ row_bits t r ≡ row_offset t (r - t.width_bits)
  slot-rows r g w l =
      let k = r - t.width_bits - 1 in
      let e : r - t.width_bits ≡ suc k = omega arith in
      let b : t.start_bits + (r - 1) ≡ t.start_bits + t.width_bits + k = omega arith in
      ap (λ (z : ℕ). 2 ^ z) b ∙ ap (row_offset t) (sym e)

-- ---- the fixed table

-- the size of a row's blocks, as a shift gives it
pub size_of_later_row : (r : ℕ) → 1 < r → r ≤ 29 → (1024 * 2 ^ (r - 1)) % 2 ^ 64 ≡ 2 ^ row_bits fixed r
size_of_later_row r l u = grind (arith, pow-add, shl_whole 1024 11 (r - 1) 64)

pub start_of_later_row : (r : ℕ) → 0 < r → r ≤ 29 → (4096 * 2 ^ (r - 1)) % 2 ^ 64 ≡ row_offset fixed r
start_of_later_row zero l u = absurd (omega arith)
start_of_later_row (suc r) l u = grind (arith, pow-add, shl_whole 4096 13 r 64)

-- an offset's row: 0, or told by the logarithm of the largest power of two that is at most the offset
pub row_low : (x : ℕ) → x < 4096 → 0 ≡ row_of fixed x
row_low x h = sym (row-of-is fixed x 0 (omega arith) zero-le h)

pub log_past_first : (j x : ℕ) → 4096 ≤ x → x < 2 * 2 ^ j → 12 ≤ j
log_past_first j x h u = grind (arith, pow_mono {i = suc j} {j = 12})

pub row_high : (j x : ℕ) → 4096 ≤ x → x ≤ 2 ^ 40 → 2 ^ j ≤ x → x < 2 * 2 ^ j → j - 12 + 1 ≡ row_of fixed x
row_high j x h m l u =
    let past = log_past_first j x h u in
    let e : 12 + (j - 12) ≡ j = omega arith in
    let f : 12 + suc (j - 12) ≡ suc j = omega arith in
    let below : x < 2 ^ suc j = omega arith in
    let z = row-of-is fixed x (suc (j - 12)) (omega arith) (rw e l) (rw f below) in
    omega arith

pub row-29 : (x : ℕ) → x < 2 ^ 40 → row_of fixed x < 29
row-29 x h = row_lt fixed x 29 h

pub row_most : (x : ℕ) → x ≤ 2 ^ 40 → row_of fixed x ≤ 29
row_most x h = let l = row_lt fixed x 30 (omega arith) in omega arith

-- row and column, from the row, its start and its blocks' size
pub place_is : (x : ℕ) {r start size : ℕ}
    → r ≡ row_of fixed x → start ≡ row_offset fixed r → size ≡ 2 ^ row_bits fixed r
    → ◌≡◌ {A = RowCol} (record { row = r; col = (x - start) / size }) (place_of fixed x)
place_is x e f g = cc
