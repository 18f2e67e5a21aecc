-- What a block of some rows spans, in closed form; and how many rows there can be.
use Rattle.std.proofs.Common.{◌≡◌, refl, sym, ap, ap₂, ◌∙◌, ℕ, zero, suc, ◌+◌, ◌-◌, ◌*◌, ◌^◌, ◌≤◌, ◌<◌, arith}
use Rattle.std.proofs.lemmas.Bool.{lt-ltb}
use Rattle.numbers.specs.Numbers.{saturated}
use Rattle.reading.specs.declared.rows.DoublingTable.{DoublingTable}
use Rattle.reading.specs.Rows.{block_size, size_to_rows, heap_size}
use Rattle.numbers.proofs.Log2.{log2-le}
use Rattle.numbers.proofs.Saturating.{sat-mul, sat-double, sat-twice}

pub rows_le : (t : DoublingTable) (size : ℕ) → (0 < size_to_rows t size) × (size_to_rows t size ≤ 64)
rows_le t size = omega (arith, log2-le size)

module _ (t : DoublingTable) where
  -- what row 0 spans, nothing cut
  abbrev first_row : ℕ
  first_row = t.starting_block_size * t.table_width

  pub block_size-is : (row : ℕ) → row - 1 < 64 → block_size t row ≡ saturated (t.starting_block_size * 2 ^ (row - 1))
  block_size-is row h = rw (lt-ltb _ _ h)

  -- what one row spans, its blocks cut before
  row-size : (row n : ℕ) → row - 1 ≡ n → n < 64
      → saturated (block_size t row * t.table_width) ≡ saturated (first_row * 2 ^ n)
  row-size row n e h =
      rw (block_size-is row (omega arith), e)
      (sat-mul (t.starting_block_size * 2 ^ n) t.table_width ∙ ap saturated (grind arith))

  -- every row after row 0 doubles what the rows before it span
  pub heap-size : (n : ℕ) → n ≤ 64 → heap_size t (suc n) ≡ saturated (first_row * 2 ^ n)
  unfolding heap_size
  heap-size zero h = ap (λ (n : ℕ). saturated (0 + n)) (row-size 0 0 refl (omega arith)) ∙ sat-twice (first_row * 2 ^ 0)
  heap-size (suc n) h =
      ap₂ (λ (x y : ℕ). saturated (x + y)) (heap-size n (omega arith)) (row-size (suc n) n (omega arith) (omega arith))
      ∙ sat-double (first_row * 2 ^ n)
      ∙ ap saturated (let two : 2 ^ suc n ≡ 2 * 2 ^ n = omega arith in rw two (grind arith))

  pub span : (n : ℕ) → 0 < n → n ≤ 64 → saturated (saturated first_row * 2 ^ (n - 1)) ≡ heap_size t n
  span n p h =
      let e : n ≡ suc (n - 1) = omega arith in
      sat-mul first_row (2 ^ (n - 1)) ∙ sym (ap (heap_size t) e ∙ heap-size (n - 1) (omega arith))
