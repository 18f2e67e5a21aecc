-- The sizes of the walk: a block is its rows one after another, and they fill it.
use Rattle.std.proofs.Common.{ℕ, zero, suc, ◌+◌, ◌-◌, ◌*◌, ◌^◌, ◌≤◌, ◌<◌, ◌≡◌, refl, sym, ap, ap₂, ◌∙◌}
use Rattle.std.proofs.Common.{List, [], ◌∷◌, ◌++◌, arith}
use Rattle.std.proofs.Math.Nat.{zero-add, add-zero}
use Rattle.std.proofs.lemmas.Bool.Decides.{nat_tests}
use Rattle.std.specs.Prelude.{nat_le, if◌then◌else◌}
use Rattle.numbers.specs.Sums.{sum}
use Rattle.numbers.proofs.Sums.{sum-append}
use Rattle.table.specs.Table.{Table, row_bits, row_offset}
use Rattle.table.proofs.Rows.{row, slot-rows}
use Rattle.slot_walk.specs.HeapOrder.{copies, slot_sizes, row_sizes, block_sizes, sizes}

pub sum-copies : (n : ℕ) (xs : List ℕ) → sum (copies n xs) ≡ n * sum xs
unfolding copies sum
sum-copies zero xs = omega arith
sum-copies (suc n) xs = omega (arith, sum-append xs (copies n xs), sum-copies n xs)

-- ---- levels enough are all

module _ (t : Table) where
  module _ (i j : ℕ → List ℕ) where
    slot_ext : (r : ℕ) → i (r - t.width_bits) ≡ j (r - t.width_bits) → slot_sizes t i r ≡ slot_sizes t j r
    slot_ext r h = ap (λ (y : List ℕ). if nat_le (row_bits t r) t.direct_bits then 2 ^ row_bits t r ∷ [] else y) h

    rows_ext : (r k : ℕ) → ((m : ℕ) → m < r + k → i m ≡ j m) → row_sizes t i r k ≡ row_sizes t j r k
    unfolding row_sizes
    rows_ext r zero h = refl
    rows_ext r (suc k) h =
        ap₂ (λ (a b : List ℕ). copies (2 ^ t.width_bits) a ++ b) (slot_ext r (h (r - t.width_bits) (omega arith)))
        (rows_ext (suc r) k (λ m l. h m (omega arith)))

  levels : (f g n : ℕ) → n ≤ f → n ≤ g → block_sizes t f n ≡ block_sizes t g n
  unfolding block_sizes row_sizes
  levels zero zero n a b = refl
  levels zero (suc g) zero a b = refl
  levels zero (suc g) (suc n) a b = absurd (omega arith)
  levels (suc f) zero zero a b = refl
  levels (suc f) zero (suc n) a b = absurd (omega arith)
  levels (suc f) (suc g) n a b =
      rows_ext (block_sizes t f) (block_sizes t g) 0 n (λ m l. levels f g m (omega arith) (omega arith))

  -- a block is its rows, whose indirect slots are blocks
  pub block-rows : (n : ℕ) → sizes t n ≡ row_sizes t (sizes t) 0 n
  unfolding block_sizes row_sizes
  block-rows zero = refl
  block-rows (suc n) =
      rows_ext (block_sizes t n) (sizes t) 0 (suc n) (λ m l. levels n m m (omega arith) (omega arith))

  -- ---- a slot: its own block, or the block that it opens

  pub slot-own : (r : ℕ) → row_bits t r ≤ t.direct_bits → slot_sizes t (sizes t) r ≡ 2 ^ row_bits t r ∷ []
  slot-own r l = grind (arith, nat_tests)

  pub slot-block : (r : ℕ) → t.direct_bits < row_bits t r → slot_sizes t (sizes t) r ≡ sizes t (r - t.width_bits)
  slot-block r l = grind (arith, nat_tests)

-- ---- rows fill their block

module _ (t : Table) (g : t.start_bits ≤ t.direct_bits) (w : t.width_bits + t.start_bits ≤ suc t.direct_bits) where
  slot-sum-by : (r : ℕ) → sum (sizes t (r - t.width_bits)) ≡ row_offset t (r - t.width_bits)
      → sum (slot_sizes t (sizes t) r) ≡ 2 ^ row_bits t r
  unfolding sum
  slot-sum-by r h = grind (arith, nat_tests, h, slot-rows t r g w)

  rows-sum-by : (r k : ℕ) → ((m : ℕ) → m < r + k → sum (sizes t m) ≡ row_offset t m)
      → row_offset t r + sum (row_sizes t (sizes t) r k) ≡ row_offset t (r + k)
  unfolding row_sizes sum
  rows-sum-by r zero h = add-zero (row_offset t r) ∙ sym (ap (row_offset t) (add-zero r))
  rows-sum-by r (suc k) h =
      let x = slot_sizes t (sizes t) r in
      let s = slot-sum-by r (h (r - t.width_bits) (omega arith)) in
      let d : sum (copies (2 ^ t.width_bits) x) ≡ 2 ^ t.width_bits * 2 ^ row_bits t r =
      sum-copies (2 ^ t.width_bits) x ∙ ap (λ (y : ℕ). 2 ^ t.width_bits * y) s in
      let c = sum-append (copies (2 ^ t.width_bits) x) (row_sizes t (sizes t) (suc r) k) in
      let more = rows-sum-by (suc r) k (λ m l. h m (omega arith)) in
      let z : row_offset t (suc r + k) ≡ row_offset t (r + suc k) = ap (row_offset t) (omega arith) in
      omega (arith, (row t r).ends)

  sizes-sum-by : (f n : ℕ) → n ≤ f → sum (sizes t n) ≡ row_offset t n
  sizes-sum-by zero zero l = ap sum (block-rows t 0) ∙ (unfold row_sizes in unfold sum in refl)
  sizes-sum-by zero (suc n) l = absurd (omega arith)
  sizes-sum-by (suc f) n l =
      ap sum (block-rows t n)
      ∙ sym (zero-add (sum (row_sizes t (sizes t) 0 n)))
      ∙ rows-sum-by 0 n (λ m k. sizes-sum-by f m (omega arith))
      ∙ ap (row_offset t) (zero-add n)

  -- the slots of n rows fill what n rows span
  pub sizes-sum : (n : ℕ) → sum (sizes t n) ≡ row_offset t n
  sizes-sum n = sizes-sum-by n n (omega arith)

  pub slot-sum : (r : ℕ) → sum (slot_sizes t (sizes t) r) ≡ 2 ^ row_bits t r
  slot-sum r = slot-sum-by r (sizes-sum (r - t.width_bits))

  pub row-sum : (r : ℕ)
      → sum (copies (2 ^ t.width_bits) (slot_sizes t (sizes t) r)) ≡ 2 ^ t.width_bits * 2 ^ row_bits t r
  row-sum r =
      sum-copies (2 ^ t.width_bits) (slot_sizes t (sizes t) r) ∙ ap (λ (y : ℕ). 2 ^ t.width_bits * y) (slot-sum r)
