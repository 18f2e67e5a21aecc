-- The exponent of the largest power of two that is at most a number.
use Rattle.std.proofs.Common.{ℕ, ◌-◌, ◌^◌, ◌≤◌, ◌<◌, ◌≡◌, refl, arith}
use Rattle.std.proofs.lemmas.Nat.{leading_top}
use Rattle.std.specs.Int.Count.{count_leading_zeros, leading_of_zero}
use Rattle.numbers.specs.Numbers.{log2, TopExponent}

-- as the code reckons it
pub log2_is : (v : ℕ) → 63 - count_leading_zeros 64 v ≡ log2 v
log2_is v = refl

pub log2-le : (v : ℕ) → log2 v ≤ 63
log2-le v = omega arith

pub log2_none : (v : ℕ) → v ≡ 0 → log2 v ≡ 0
log2_none v e = rw (e, leading_of_zero 64)

-- of every 64-bit number but 0
pub log2_law : (x : ℕ) → 0 < x → x < 2 ^ 64 → TopExponent x (log2 x)
log2_law x p h =
    let t = leading_top 64 x p h in
    let e : 63 - count_leading_zeros 64 x ≡ t.0 = omega (arith, t.1) in
    record { reached = rw e t.2; below_next = rw e t.3 }

pub ruleset exponents = (log2_is, log2_none, log2_law)
