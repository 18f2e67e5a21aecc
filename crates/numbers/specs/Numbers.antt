-- 64-bit numbers: what stops at the largest one, and a number's size in bits; how many bytes any
-- number needs.
use Rattle.std.specs.Prelude.{ℕ, zero, suc, ◌-◌, ◌*◌, ◌^◌, ◌≤◌, ◌<◌, min, true, false, nat_lt}
use Rattle.std.specs.Int.Count.{count_leading_zeros}

-- n, or the largest 64-bit number where n is above it
abbrev pub saturated : (n : ℕ) → ℕ
saturated n = min n (2 ^ 64 - 1)

-- the exponent of the largest power of two that is at most v, for v below 2 ^ 64; 0 of 0
abbrev pub log2 : (v : ℕ) → ℕ
log2 v = 63 - count_leading_zeros 64 v

-- k is the exponent of the largest power of two that is at most x: the law of `log2`
pub record TopExponent (x k : ℕ) : Type 0 where
  pub reached : 2 ^ k ≤ x
  pub below_next : x < 2 ^ suc k

-- of so many counts of bytes, this one and those after it, the first that holds x
unfoldable pub bytes_from : (counts bytes x : ℕ) → ℕ
bytes_from zero bytes x = bytes
bytes_from (suc counts) bytes x =
    elim (nat_lt x (2 ^ (8 * bytes))) [ true ↦ bytes | false ↦ bytes_from counts (suc bytes) x ]

-- how many bytes a number needs: the first count of bytes, from 0 on, that holds it; x bytes hold x
abbrev pub bytes_needed : (x : ℕ) → ℕ
bytes_needed x = bytes_from x 0 x

-- so many bytes hold x, and no fewer do: the law of `bytes_needed`
pub record FewestBytes (x bytes : ℕ) : Type 0 where
  pub holds : x < 2 ^ (8 * bytes)
  pub least : (fewer : ℕ) → x < 2 ^ (8 * fewer) → bytes ≤ fewer

-- of every number
abbrev pub BytesAreFewest : Type 0
BytesAreFewest = (x : ℕ) → FewestBytes x (bytes_needed x)
