-- Rows begin at different places, and their slots double.
use Rattle.std.proofs.Common.{ℕ, suc, ◌+◌, ◌-◌, ◌*◌, ◌^◌, ◌≤◌, ◌<◌, ◌≡◌, arith, ap, ◌∙◌}
use Rattle.std.proofs.Math.Nat.{mul-le-mul_right}
use Rattle.std.proofs.Math.Pow.{pow_mono, pow-lt}
use Rattle.std.proofs.lemmas.Nat.{pow_pos}
use Rattle.table.specs.Table.{Table, row_bits, row_offset}
use Rattle.table.proofs.Rows.{row, row-mono}

pub pow-below : {a b : ℕ} → 2 ^ a < 2 ^ b → a < b
pow-below {a} {b} l = grind (arith, pow_mono)

pub pow-upto : {a b : ℕ} → 2 ^ a ≤ 2 ^ b → a ≤ b
pow-upto {a} {b} l = grind (arith, pow-lt)

pub pow-same : (a b : ℕ) → 2 ^ a ≡ 2 ^ b → a ≡ b
pow-same a b e = let l : a ≤ b = pow-upto (omega arith) in let u : b ≤ a = pow-upto (omega arith) in omega arith

module _ (t : Table) where
  pub row-strict : (m n : ℕ) → m < n → row_offset t m < row_offset t n
  row-strict m n l =
      let q : 1 * 2 ^ row_bits t m ≤ 2 ^ t.width_bits * 2 ^ row_bits t m =
      mul-le-mul_right (2 ^ row_bits t m) (pow_pos t.width_bits) in
      omega (arith, (row t m).ends, row-mono t (suc m) n l, pow_pos (row_bits t m))

  pub row-same : (m n : ℕ) → row_offset t m ≡ row_offset t n → m ≡ n
  row-same m n e =
      let a : ¬ (m < n) = λ l. omega (arith, row-strict m n l) in
      let b : ¬ (n < m) = λ l. omega (arith, row-strict n m l) in
      omega arith

  -- a row past row 1 has slots twice as large as the row before
  pub double : (r : ℕ) → 2 ^ row_bits t (suc (suc r)) ≡ 2 ^ row_bits t (suc r) + 2 ^ row_bits t (suc r)
  double r =
      let k = t.start_bits + (suc r - 1) in
      ap (λ (y : ℕ). 2 ^ y) (let e : t.start_bits + (suc (suc r) - 1) ≡ suc k = omega arith in e) ∙ omega arith
