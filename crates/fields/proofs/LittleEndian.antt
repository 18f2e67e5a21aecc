-- Laws of little-endian numbers, and of bytes put in the place of others, for every width.
use Rattle.std.proofs.Common.{◌≡◌, refl, sym, ap, ap₂, ◌∙◌, List, [], ◌∷◌, ◌++◌, append_assoc, ℕ, zero, suc}
use Rattle.std.proofs.Common.{◌+◌, ◌-◌, ◌*◌, ◌/◌, ◌%◌, ◌^◌, ◌≤◌, ◌<◌, zero-add, arith, length, take, drop}
use Rattle.std.proofs.Common.{replicate, length-append}
use Rattle.std.proofs.Common.{length-drop, take-add, drop-drop, drop-cons, take_all, take_at, drop_at, length-take-le}
use Rattle.std.proofs.Common.{get_or-take, get_or-drop, pow-add, pow_pos, shr-shr}
use Rattle.std.proofs.Math.Nat.{zero-div}
use Rattle.std.proofs.Math.Seq.{sets, length-sets, sets-eq}
use Rattle.std.proofs.Math.Pow.{mod-pow-add}
use Rattle.std.proofs.lemmas.Bool.Decides.{nat_tests}
use Rattle.std.proofs.lemmas.Slice.Eq.{bytes_eq-Decides}
use Rattle.std.specs.Prelude.{slice_index, bytes_eq, ◌==◌}
use Rattle.fields.specs.LittleEndian.{le, value, le_at, put}

-- one byte more is eight bits more
pub pow-byte : (w : ℕ) → 2 ^ (8 * suc w) ≡ 2 ^ (8 * w) * 256
pow-byte w =
    let e : 8 * suc w ≡ 8 * w + 8 = omega arith in
    rw e (pow-add 2 (8 * w) 8)

-- ---- numbers of bytes

pub value-append : (bs cs : List ℕ) → value (bs ++ cs) ≡ value bs + value cs * 2 ^ (8 * length bs)
unfolding value
value-append [] cs = omega arith
value-append (b ∷ bs) cs = rw (value-append bs cs, pow-byte (length bs)) (omega arith)

pub value-lt : (bs : List ℕ) → ((j : ℕ) → slice_index bs j < 256) → value bs < 2 ^ (8 * length bs)
unfolding value
value-lt [] h = omega arith
value-lt (b ∷ bs) h = omega (arith, h 0, value-lt bs (λ j. h (suc j)), pow-byte (length bs))

-- as many bytes with the same number are the same bytes
value-same : (bs cs : List ℕ) → length bs ≡ length cs → ((j : ℕ) → j < length bs → slice_index bs j < 256)
    → ((j : ℕ) → slice_index cs j < 256) → value bs ≡ value cs → bs ≡ cs
unfolding value
value-same [] [] e h k v = refl
value-same [] (c ∷ cs) e h k v = absurd (omega arith)
value-same (b ∷ bs) [] e h k v = absurd (omega arith)
value-same (b ∷ bs) (c ∷ cs) e h k v =
    let one : b < 256 = h 0 (omega arith) in
    let first : b ≡ c = omega (arith, v, one, k 0) in
    let others : value bs ≡ value cs = omega (arith, v, one, k 0) in
    ap₂ (λ x xs. x ∷ xs) first
    (value-same bs cs (omega arith) (λ j l. h (suc j) (omega (arith, l))) (λ j. k (suc j)) others)

-- four letters that stand at p, compared as numbers
pub same_letters : (s letters : List ℕ) (p n : ℕ) → n ≡ le_at s p 4 → (m : ℕ) → m ≡ le_at letters 0 4
    → p + 4 ≤ length s → length letters ≡ 4 → ((j : ℕ) → slice_index s j < 256)
    → ((j : ℕ) → slice_index letters j < 256) → (n == m) ≡ bytes_eq (take 4 (drop p s)) letters
unfolding le_at
same_letters s letters p n e m f there four h k =
    let part : List ℕ = take 4 (drop p s) in
    let len : length part ≡ 4 = length-take-le 4 (drop p s) (rw length-drop (omega arith)) in
    let small : (j : ℕ) → j < length part → slice_index part j < 256 =
    λ j l. rw (get_or-take 4 (drop p s) j 0 (omega (arith, l, len)), get_or-drop p s j 0) (h (p + j)) in
    let whole : m ≡ value letters = f ∙ ap value (take_all 4 letters (omega arith)) in
    grind (arith, nat_tests, bytes_eq-Decides part letters, value-same part letters (omega (arith, len)) small k)

-- i bytes, then j bytes
pub le_at-add : (i j : ℕ) (s : List ℕ) (p : ℕ) → p + i ≤ length s
    → le_at s p (i + j) ≡ le_at s p i + le_at s (p + i) j * 2 ^ (8 * i)
unfolding le_at
le_at-add i j s p h =
    let front = length-take-le i (drop p s) (simp length-drop (omega arith)) in
    rw (take-add i j (drop p s), drop-drop i p s, value-append, front) refl

pub le_at-drop : (s : List ℕ) (q p w : ℕ) → le_at (drop q s) p w ≡ le_at s (q + p) w
unfolding le_at
le_at-drop s q p w = rw (drop-drop p q s)

-- bytes past the end count for nothing
pub le_at-end : (s : List ℕ) (p w v : ℕ) → length s ≤ p + w → length s ≤ p + v → le_at s p w ≡ le_at s p v
unfolding le_at
le_at-end s p w v h k =
    rw (take_all w (drop p s) (rw length-drop (omega arith)), take_all v (drop p s) (rw length-drop (omega arith))) refl

pub le_at-byte : (s : List ℕ) (p : ℕ) → p < length s → le_at s p 1 ≡ slice_index s p
unfolding le_at value
le_at-byte s p h = rw (drop-cons s p 0) (omega arith)

-- a number of bytes without its k lowest bytes
value-drop : (bs : List ℕ) → ((j : ℕ) → slice_index bs j < 256) → (k : ℕ) → value (drop k bs) ≡ value bs / 2 ^ (8 * k)
unfolding value
value-drop bs h zero = omega arith
value-drop [] h (suc k) = sym (zero-div (2 ^ (8 * suc k)))
value-drop (b ∷ bs) h (suc k) =
    let e : 8 * suc k ≡ 8 + 8 * k = omega arith in
    let low : (b + value bs * 256) / 2 ^ 8 ≡ value bs = omega (arith, h 0) in
    value-drop bs (λ j. h (suc j)) k
    ∙ ap (λ (n : ℕ). n / 2 ^ (8 * k)) (sym low)
    ∙ rw e (shr-shr (b + value bs * 256) 8 (8 * k))

-- the bytes from p on, of which there are at most w, are the last w bytes without those before p
pub le_at-last : (s : List ℕ) → ((j : ℕ) → slice_index s j < 256) → (w q k : ℕ) → q + w ≡ length s
    → le_at s (q + k) w ≡ le_at s q w / 2 ^ (8 * k)
unfolding le_at
le_at-last s h w q k e =
    let whole : take w (drop q s) ≡ drop q s = take_all w (drop q s) (rw length-drop (omega arith)) in
    let part : take w (drop (q + k) s) ≡ drop k (drop q s) =
    take_all w (drop (q + k) s) (rw length-drop (omega arith)) ∙ sym (drop-drop k q s) in
    rw (whole, part) (value-drop (drop q s) (λ j. rw (get_or-drop q s j 0) (h (q + j))) k)

pub length-le : (w x : ℕ) → length (le w x) ≡ w
unfolding le
length-le zero x = refl
length-le (suc w) x = ap suc (length-le w (x / 256))

pub value-le : (w x : ℕ) → value (le w x) ≡ x % 2 ^ (8 * w)
unfolding le value
value-le zero x = omega arith
value-le (suc w) x =
    let e : 8 * suc w ≡ 8 * w + 8 = omega arith in
    rw (value-le w (x / 256), e) (omega (arith, mod-pow-add x (8 * w) 8))

-- bytes of ones
le_ones : (w k : ℕ) → le w (2 ^ (8 * (w + k)) - 1) ≡ replicate w 255
unfolding le
le_ones zero k = refl
le_ones (suc w) k =
    let e : suc w + k ≡ suc (w + k) = omega arith in
    let low : (2 ^ (8 * (w + k)) * 256 - 1) % 256 ≡ 255 = omega (arith, pow_pos (8 * (w + k))) in
    let high : (2 ^ (8 * (w + k)) * 256 - 1) / 256 ≡ 2 ^ (8 * (w + k)) - 1 = omega (arith, pow_pos (8 * (w + k))) in
    rw (e, pow-byte (w + k), low, high, le_ones w k)

pub le-undefined : (w : ℕ) → w ≤ 8 → le w (2 ^ 64 - 1) ≡ replicate w 255
le-undefined w h =
    let e : 8 ≡ w + (8 - w) = omega arith in
    ap (λ (n : ℕ). le w (2 ^ (8 * n) - 1)) e ∙ le_ones w (8 - w)

-- ---- bytes in the place of others

-- in the first places, also where there are fewer
pub put_front : (s bs : List ℕ) → put s 0 bs ≡ bs ++ drop (length bs) s
unfolding put
put_front s bs = ap (λ (n : ℕ). bs ++ drop n s) (zero-add (length bs))

module _ (s : List ℕ) (p : ℕ) (bs : List ℕ) (room : p + length bs ≤ length s) where
  -- byte by byte
  pub put-sets : put s p bs ≡ sets s p bs
  unfolding put
  put-sets = sym (sets-eq bs s p room)

  pub length-put : length (put s p bs) ≡ length s
  length-put = rw put-sets (length-sets s p bs)

  front : length (take p s) ≡ p
  front = length-take-le p s (omega arith)

  pub put-before : take p (put s p bs) ≡ take p s
  unfolding put
  put-before = rw append_assoc (take_at (take p s) (bs ++ drop (p + length bs) s) p front)

  pub put-after : drop (p + length bs) (put s p bs) ≡ drop (p + length bs) s
  unfolding put
  put-after =
      drop_at (take p s ++ bs) (drop (p + length bs) s) (p + length bs)
      (length-append (take p s) bs ∙ ap (λ (n : ℕ). n + length bs) front)

  pub put-here : take (length bs) (drop p (put s p bs)) ≡ bs
  unfolding put
  put-here =
      rw (append_assoc, drop_at (take p s) (bs ++ drop (p + length bs) s) p front)
      (take_at bs (drop (p + length bs) s) (length bs) refl)
