-- Laws of IDs: the bits of a number, and the number in a short ID.
use Rattle.std.proofs.Common.{◌≡◌, refl, sym, ◌∙◌, ℕ, zero, suc, ◌-◌, ◌^◌, ◌/◌, ◌%◌, ◌≤◌, ◌<◌, List, ◌++◌}
use Rattle.std.proofs.Common.{length, take, drop, replicate, arith}
use Rattle.std.proofs.Math.Nat.{mod-eq_of_lt, div-eq_of_lt}
use Rattle.std.proofs.Math.Pow.{pow_mono}
use Rattle.std.proofs.lemmas.List.{take_all, length-drop, drop-replicate, length-append, length-replicate}
use Rattle.fields.specs.LittleEndian.{value, le_at}
use Rattle.fields.proofs.LittleEndian.{value-append}

-- ---- bits

pub mod_wide : (x k : ℕ) → x < 2 ^ 64 → 64 ≤ k → x % 2 ^ k ≡ x
mod_wide x k h l = mod-eq_of_lt (omega (arith, pow_mono {i = 64} {j = k} l))

pub div_wide : (x k : ℕ) → x < 2 ^ 64 → 64 ≤ k → x / 2 ^ k ≡ 0
div_wide x k h l = div-eq_of_lt (omega (arith, pow_mono {i = 64} {j = k} l))

-- ---- the number of a short ID: the zeros behind its bytes count for nothing

value-zeros : (n : ℕ) → value (replicate n 0) ≡ 0
unfolding value
value-zeros zero = refl
value-zeros (suc n) = rw (value-zeros n) refl

pub number_padded : (s copied : List ℕ) (k : ℕ) → length s < 8 → copied ≡ take (length s - 1) (drop 1 s)
    → k ≡ length s - 1 → le_at (copied ++ drop k (replicate 8 0)) 0 8 ≡ le_at s 1 8
unfolding le_at
number_padded s copied k short e f =
    let l : length (drop 1 s) ≡ k = length-drop 1 s ∙ sym f in
    let d : copied ≡ drop 1 s = e ∙ take_all (length s - 1) (drop 1 s) (omega arith) in
    let zeros : List ℕ = replicate (8 - k) 0 in
    let z : drop k (replicate {A = ℕ} 8 0) ≡ zeros = drop-replicate k 8 0 in
    let w : length (drop 1 s ++ zeros) ≡ 8 =
    length-append (drop 1 s) zeros ∙ omega (arith, l, length-replicate {A = ℕ} (8 - k) 0) in
    rw (
      d,
      z,
      take_all 8 (drop 1 s ++ zeros) (omega arith),
      value-append,
      value-zeros (8 - k),
      take_all 8 (drop 1 s) (omega arith),
    ) (omega arith)
