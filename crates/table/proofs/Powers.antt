-- Powers of two: a power as a multiple of a smaller one, a multiple less a multiple.
use Rattle.std.proofs.Common.{ℕ, suc, ◌+◌, ◌-◌, ◌*◌, ◌^◌, ◌≤◌, ◌<◌, ◌≡◌, sym, ap, ◌∙◌, arith}
use Rattle.std.proofs.Math.Nat.{mul-le-mul_right}
use Rattle.std.proofs.lemmas.Nat.{pow_pos, pow-add}

-- 2 ^ b as a multiple of a smaller power
pub pow-split : {b c : ℕ} → c ≤ b → 2 ^ b ≡ 2 ^ (b - c) * 2 ^ c
pow-split {b} {c} l = grind (arith, pow-add)

pub join : (q b c k : ℕ) → c ≤ b → q * 2 ^ b + k * 2 ^ c ≡ (q * 2 ^ (b - c) + k) * 2 ^ c
join q b c k l = grind (arith, pow-split l)

-- a multiple less a multiple is a multiple
pub part : (m k c r : ℕ) → m * 2 ^ c + r ≡ k * 2 ^ c → (d : ℕ) × (r ≡ d * 2 ^ c)
part m k c r e =
    let le : m ≤ k = grind (arith, pow_pos c) in
    let w : k * 2 ^ c ≡ (m + (k - m)) * 2 ^ c = ap (λ (y : ℕ). y * 2 ^ c) (omega arith) in
    (k - m, omega arith)

-- between two multiples lies a whole step
pub step-below : (d e c : ℕ) → d * 2 ^ c < e * 2 ^ c → suc d * 2 ^ c ≤ e * 2 ^ c
step-below d e c l = let u : d < e = grind (arith, pow_pos c) in mul-le-mul_right (2 ^ c) u

pub carry : (w b : ℕ) → 2 ^ suc w * 2 ^ b ≡ 2 ^ w * 2 ^ suc b
carry w b = sym (pow-add 2 (suc w) b) ∙ ap (λ (k : ℕ). 2 ^ k) (omega arith) ∙ pow-add 2 w (suc b)
