-- A number of up to eight bytes, out of the eight bytes that end where it does.
use Rattle.std.proofs.Common.{◌≡◌, ◌∙◌, ℕ, ◌+◌, ◌-◌, ◌*◌, ◌/◌, ◌^◌, ◌<◌, ◌≤◌, List, length, take, drop, sym, ap, arith}
use Rattle.std.proofs.Common.{length-drop, length-take-le}
use Rattle.std.proofs.lemmas.Grind.{common_steps}
use Rattle.std.specs.Prelude.{slice_index}
use Rattle.fields.specs.LittleEndian.{le_at, value}
use Rattle.fields.proofs.LittleEndian.{le_at-add, value-lt}

pub none_stored : (s : List ℕ) (p n : ℕ) → n ≡ 0 → 0 ≡ le_at s p n
unfolding le_at value
none_stored s p n e = rw e

module _ (s : List ℕ) (bytes : (j : ℕ) → slice_index s j < 256) where
  front-small : (p n j : ℕ) → slice_index (take n (drop p s)) j < 256
  front-small p n j = let h = bytes (p + j) in grind (arith, common_steps)

  le_at-small : (p n : ℕ) → p + n ≤ length s → le_at s p n < 2 ^ (8 * n)
  unfolding le_at
  le_at-small p n h =
      let l : length (take n (drop p s)) ≡ n = length-take-le n (drop p s) (rw length-drop (omega arith)) in
      rw l at (value-lt (take n (drop p s)) (front-small p n))

  pub last-stored : (p n : ℕ) → 7 ≤ p → n ≤ 8 → 0 < n → p + n ≤ length s
      → le_at s (p + n - 8) 8 / 2 ^ (8 * (8 - n)) ≡ le_at s p n
  last-stored p n behind few some room =
      let q : ℕ = p + n - 8 in
      let k : ℕ = 8 - n in
      let e : k + n ≡ 8 = omega arith in
      let f : q + k ≡ p = omega arith in
      ap (λ (m : ℕ). le_at s q m / 2 ^ (8 * k)) (sym e)
      ∙ ap (λ (m : ℕ). m / 2 ^ (8 * k)) (le_at-add k n s q (omega arith))
      ∙ ap (λ (m : ℕ). (le_at s q k + le_at s m n * 2 ^ (8 * k)) / 2 ^ (8 * k)) f
      ∙ shifted (le_at s q k) (le_at s p n) (2 ^ (8 * k)) (le_at-small q k (omega arith))
    where
      shifted : (a b m : ℕ) → a < m → (a + b * m) / m ≡ b
      shifted a b m h = grind arith
