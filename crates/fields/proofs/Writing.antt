-- What a writer's steps leave: the bytes of numbers, and what stands behind.
use Rattle.std.proofs.Common.{◌≡◌, refl, sym, ap, ◌∙◌, ℕ, zero, suc, ◌+◌, ◌*◌, ◌/◌, ◌%◌, ◌^◌, ◌≤◌, List, ◌∷◌, length}
use Rattle.std.proofs.Common.{take, drop, arith, drop-drop, append_assoc}
use Rattle.std.proofs.lemmas.Slice.{drop-put_mid}
use Rattle.std.proofs.Math.Nat.{div-div-eq-div-mul}
use Rattle.std.proofs.Math.Numerals.{unary_clauses}
use Rattle.std.specs.Int.{byte_at, bytes_low_first, to_le_bytes, w32, w64}
use Rattle.std.specs.Prelude.{true, ◌++◌}
use Rattle.fields.specs.LittleEndian.{le, put}
use Rattle.fields.specs.Widths.{legal}
use Rattle.fields.proofs.Widths.{legal-small}

-- a part from `at` on was written
pub behind_put : (at n k : ℕ) (xs ys : List ℕ) → k ≡ n → at ≤ length xs → length ys ≡ n
    → drop (at + n) (take at xs ++ (ys ++ drop k (drop at xs))) ≡ drop n (drop at xs)
behind_put at n k xs ys e h l =
    drop-put_mid at k xs ys (at + n) (omega arith) h (l ∙ sym e) ∙ sym (drop-drop n at xs)

byte-is : (i x : ℕ) → byte_at i x ≡ x / 256 ^ i % 256
byte-is zero x = omega arith
byte-is (suc i) x = refl

-- the bytes of a number from byte i on
le_from : (w i x : ℕ) → bytes_low_first i w x ≡ le w (x / 256 ^ i)
unfolding le
le_from zero i x = refl
le_from (suc w) i x =
    let p : 256 ^ suc i ≡ 256 ^ i * 256 = simp unary_clauses refl in
    let s : x / 256 ^ suc i ≡ x / 256 ^ i / 256 = rw p (sym (div-div-eq-div-mul x (256 ^ i) 256)) in
    rw (byte-is i x) (ap (λ (bs : List ℕ). x / 256 ^ i % 256 ∷ bs) (le_from w (suc i) x ∙ ap (le w) s))

pub le-eight : (x : ℕ) → to_le_bytes w64 x ≡ le 8 x
le-eight x = le_from 8 0 x ∙ ap (le 8) (omega arith)

pub le_four : (x : ℕ) → to_le_bytes w32 x ≡ le 4 x
le_four x = le_from 4 0 x ∙ ap (le 4) (omega arith)

-- the first bytes of more
pub take-le : (w v x : ℕ) → w ≤ v → take w (le v x) ≡ le w x
unfolding le
take-le zero v x h = refl
take-le (suc w) zero x h = absurd (omega arith)
take-le (suc w) (suc v) x h = ap (λ (bs : List ℕ). x % 256 ∷ bs) (take-le w v (x / 256) (omega arith))

-- so are those of all eight bytes
pub low_bytes : (w x : ℕ) → w ≤ 8 → take w (to_le_bytes w64 x) ≡ le w x
low_bytes w x h = rw (le-eight x) (take-le w 8 x h)

pub legal_narrow : (w : ℕ) → legal w ≡ true → w ≤ 8
legal_narrow w e = legal-small w e

-- a part that is lent and written over, as bytes in the place of others
pub mid_put : (s y bs : List ℕ) (p k : ℕ) → y ≡ bs → length bs ≡ k
    → take p s ++ (y ++ drop k (drop p s)) ≡ put s p bs
unfolding put
mid_put s y bs p k e n = rw (e, ← n, drop-drop (length bs) p s, append_assoc) refl
