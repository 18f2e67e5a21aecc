-- Sums, products and shifts that are cut to the largest 64-bit number.
use Rattle.std.proofs.Common.{ℕ, ◌+◌, ◌-◌, ◌*◌, ◌^◌, ◌/◌, ◌%◌, ◌≤◌, ◌<◌, ◌≡◌, mul_comm, arith}
use Rattle.std.proofs.Math.Nat.{le-div_iff_mul-le, div-lt_iff_lt-mul}
use Rattle.std.proofs.lemmas.Nat.{pow_pos, mul-lt}
use Rattle.numbers.specs.Numbers.{saturated}

pub sat-fits : (n : ℕ) → n < 2 ^ 64 → saturated n ≡ n
sat-fits n h = omega arith

-- a size below 2 ^ 48 times a width
pub mul_small : (size width : ℕ) → size < 2 ^ 48 → width < 2 ^ 16 → size * width ≡ saturated (size * width)
mul_small size width h l = omega (arith, mul-lt size width (2 ^ 48) (2 ^ 16) h l)

-- the product fits exactly where one factor is at most the quotient
pub mul_fits : (size width : ℕ) → 0 < size → width ≤ (2 ^ 64 - 1) / size → size * width ≡ saturated (size * width)
mul_fits size width h l = grind (arith, le-div_iff_mul-le, mul_comm)

pub mul_over : (size width : ℕ) → 0 < size → (2 ^ 64 - 1) / size < width → 2 ^ 64 - 1 ≡ saturated (size * width)
mul_over size width h l = grind (arith, div-lt_iff_lt-mul, mul_comm)

pub ruleset products = (mul_small, mul_fits, mul_over)

-- a shift fits exactly where the size is at most the largest number shifted back
pub shl_fits : (size bits : ℕ) → size ≤ (2 ^ 64 - 1) / 2 ^ bits
    → (size * 2 ^ bits) % 2 ^ 64 ≡ saturated (size * 2 ^ bits)
shl_fits size bits h = grind (arith, le-div_iff_mul-le, pow_pos)

pub shl_over : (size bits : ℕ) → (2 ^ 64 - 1) / 2 ^ bits < size → 2 ^ 64 - 1 ≡ saturated (size * 2 ^ bits)
shl_over size bits h = grind (arith, div-lt_iff_lt-mul, pow_pos)

pub ruleset shifts = (shl_fits, shl_over)

-- a factor that was cut before does not matter
pub sat-mul : (p q : ℕ) → saturated (saturated p * q) ≡ saturated (p * q)
sat-mul p q = grind arith

-- a sum of two equal terms, each cut before
pub sat-double : (a : ℕ) → saturated (saturated a + saturated a) ≡ saturated (a + a)
sat-double a = omega arith

pub sat-twice : (a : ℕ) → saturated (0 + saturated a) ≡ saturated a
sat-twice a = omega arith
