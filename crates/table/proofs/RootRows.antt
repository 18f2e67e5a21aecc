-- The fewest rows that span a number of bytes.
use Rattle.std.proofs.Common.{ℕ, zero, suc, ◌+◌, ◌-◌, ◌^◌, ◌≤◌, ◌<◌, ◌≡◌, zero-le, refl, ap, arith, add-one, inl, inr}
use Rattle.std.proofs.lemmas.Bool.{cases_lt, le-leb, lt-leb}
use Rattle.std.specs.Prelude.{Some, None}
use Rattle.table.specs.Table.{Table, fixed, row_offset, row_of, covering_in, covering}
use Rattle.table.proofs.Rows.{row-mono, row-lo, row_up, row-29, heap-rows}

module _ (t : Table) (x : ℕ) where
  -- n rows reach x and no fewer do
  covering-is : (f m n : ℕ) → m ≤ n → n < m + f → ((j : ℕ) → m ≤ j → j < n → row_offset t j < x) → x ≤ row_offset t n
      → covering_in t f m x ≡ Some n
  unfolding covering_in
  covering-is zero m n l u less enough = absurd (omega arith)
  covering-is (suc f) m n l u less enough =
      elim (cases_lt m n) [
        | inl v ↦
            rw (lt-leb x (row_offset t m) (less m (omega arith) v), covering_in)
            (covering-is f (suc m) n v (omega arith) (λ j a b. less j (omega arith) b) enough)
        | inr v ↦
            let e : m ≡ n = omega arith in
            rw e (rw (le-leb x (row_offset t n) enough, covering_in) refl)
      ]

  -- no row count reaches x
  covering-none : (f m : ℕ) → ((j : ℕ) → j < m + f → row_offset t j < x) → covering_in t f m x ≡ None
  unfolding covering_in
  covering-none zero m less = refl
  covering-none (suc f) m less =
      rw (lt-leb x (row_offset t m) (less m (omega arith)), covering_in)
      (covering-none f (suc m) (λ j a. less j (omega arith)))

-- ---- the fixed table

pub covers-zero : covering fixed 0 ≡ Some 1
covers-zero = covering-is fixed 0 29 1 1 (omega arith) (omega arith) (λ j a b. absurd (omega arith)) zero-le

pub covers-not : (x : ℕ) → 2 ^ 40 < x → covering fixed x ≡ None
covers-not x h = covering-none fixed x 29 1 (λ j l. omega (arith, row-mono fixed j 29 (omega arith)))

-- the row of the last byte is the last row
pub covers : (x : ℕ) → 0 < x → x ≤ 2 ^ 40 → covering fixed x ≡ Some (row_of fixed (x - 1) + 1)
covers x p h =
    let r = row_of fixed (x - 1) in
    let l = row-29 (x - 1) (omega arith) in
    let up = row_up fixed (x - 1) (heap-rows fixed (x - 1) (omega arith)) in
    let lo = row-lo fixed (x - 1) in
    let e = ap (row_offset fixed) (add-one r) in
    covering-is fixed x 29 1 (r + 1) (omega arith) (omega arith)
    (λ j a b. omega (arith, row-mono fixed j r (omega arith)))
    (omega arith)
