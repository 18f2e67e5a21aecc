-- The fewest bytes that hold a number.
use Rattle.std.proofs.Common.{ℕ, zero, suc, ◌+◌, ◌*◌, ◌/◌, ◌^◌, ◌≤◌, ◌<◌, ◌≡◌, inl, inr, pow-add, arith}
use Rattle.std.proofs.Math.Pow.{pow_mono}
use Rattle.std.proofs.lemmas.Bool.{cases_lt, lt-ltb, le-ltb}
use Rattle.numbers.specs.Numbers.{log2, bytes_from, bytes_needed, FewestBytes, BytesAreFewest}
use Rattle.numbers.proofs.Log2.{log2-le, log2_law}

-- x bytes hold x
held : (x : ℕ) → x < 2 ^ (8 * x)
held zero = omega arith
held (suc x) =
    let before = held x in
    let more : 8 * suc x ≡ 8 + 8 * x = omega arith in
    rw more (grind (arith, pow-add))

-- where no fewer bytes hold it than those that are tried first, and one of the counts that are tried does
first_held : (counts bytes x : ℕ) → x < 2 ^ (8 * (bytes + counts))
    → ((fewer : ℕ) → x < 2 ^ (8 * fewer) → bytes ≤ fewer) → FewestBytes x (bytes_from counts bytes x)
unfolding bytes_from
first_held zero bytes x h l =
    record { holds = (let e : bytes + 0 ≡ bytes = omega arith in rw e at h); least = l }
first_held (suc counts) bytes x h l = elim (cases_lt x (2 ^ (8 * bytes))) [
  | inl few ↦ rw (lt-ltb x (2 ^ (8 * bytes)) few, bytes_from) (record { holds = few; least = l })
  | inr many ↦
      let longer : suc bytes + counts ≡ bytes + suc counts = omega arith in
      rw (le-ltb x (2 ^ (8 * bytes)) many, bytes_from)
      (first_held counts (suc bytes) x (rw longer h) (λ fewer m. above fewer m many (l fewer m)))
]
  where
    -- what does not hold x is not the number of bytes that does
    above : (fewer : ℕ) → x < 2 ^ (8 * fewer) → 2 ^ (8 * bytes) ≤ x → bytes ≤ fewer → suc bytes ≤ fewer
    above fewer m many b = grind arith

pub bytes-fewest : BytesAreFewest
bytes-fewest x =
    let all : 0 + x ≡ x = omega arith in
    first_held x 0 x (rw all (held x)) (λ fewer m. omega arith)

-- there is one such number
fewest_one : {x n m : ℕ} → FewestBytes x n → FewestBytes x m → n ≡ m
fewest_one {n = n} {m = m} N M =
    let a = N.least m M.holds in
    let b = M.least n N.holds in
    omega arith

-- 0 needs none, any other number the byte of its highest bit and those before it
pub none_needed : (x : ℕ) → x ≡ 0 → bytes_needed x ≡ 0
none_needed x e =
    fewest_one (bytes-fewest x) (record { holds = omega arith; least = λ fewer m. omega arith })

by_log2 : (x : ℕ) → 0 < x → x < 2 ^ 64 → FewestBytes x (log2 x / 8 + 1)
by_log2 x some h =
    let top = log2_law x some h in
    record {
      holds = (let wide = pow_mono {i = suc (log2 x)} {j = 8 * (log2 x / 8 + 1)} (omega arith) in
          let below = top.below_next in omega arith);
      least = λ fewer m. least-one (log2 x) fewer top.reached m;
    }
  where
    least-one : (j fewer : ℕ) → 2 ^ j ≤ x → x < 2 ^ (8 * fewer) → j / 8 + 1 ≤ fewer
    least-one j fewer r m = grind (arith, pow_mono)

pub needed_by_log2 : (x : ℕ) → 0 < x → x < 2 ^ 64 → log2 x / 8 + 1 ≡ bytes_needed x
needed_by_log2 x some h = fewest_one (by_log2 x some h) (bytes-fewest x)

pub ruleset fewest = (none_needed, needed_by_log2, log2-le)
