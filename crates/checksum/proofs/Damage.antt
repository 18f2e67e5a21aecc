-- A part that changed does not vanish in the words: from the end on each mix is undone, and what is the same behind the
-- part is taken away, down to the part itself.
use Rattle.std.proofs.Common.{◌≡◌, ℕ, zero, suc, ◌+◌, ◌-◌, ◌*◌, ◌/◌, ◌%◌, ◌^◌, ◌<◌, ◌≤◌, List, [], ◌∷◌, ◌++◌, length}
use Rattle.std.proofs.Common.{take, drop, refl, sym, ap, ◌∙◌, subst, min, inl, inr, arith, length-drop, add-zero}
use Rattle.std.proofs.Common.{pow_mono, ne_eqb}
use Rattle.std.specs.Prelude.{slice_index}
use Rattle.std.proofs.lemmas.Bool.{cases_lt}
use Rattle.std.proofs.lemmas.List.{take-take, drop-take, take-append-drop, take_all, length-take}
use Rattle.std.proofs.lemmas.List.{get_or-take, get_or-drop, get_or_past}
use Rattle.std.proofs.Math.Seq.{drop-drop}
use Rattle.fields.specs.LittleEndian.{le, value, le_at}
use Rattle.fields.proofs.LittleEndian.{le_at-drop, value-lt}
use Rattle.checksum.specs.Words.{add32}
use Rattle.checksum.specs.Mix.{mixed, final_mixed}
use Rattle.checksum.specs.Lookup3.{grouped, mixed_groups, begun, groups_of, tail_of, hashlittle}
use Rattle.checksum.specs.Undoing.{Fit}
use Rattle.checksum.specs.Damage.{words_after, final_words, Bytes, OnePart, GroupsShow, PartsShow}
use Rattle.checksum.specs.declared.mixing.MixState.{MixState}
use Rattle.checksum.proofs.Switch.{tail-group}
use Rattle.checksum.proofs.Undoing.{mix-undone, final-undone, undone-tells, add_lt}

-- ---- the words, group by group

-- those after n groups, with the next 12 bytes, or all that are left, added
abbrev with_part : (bytes : List ℕ) (n : ℕ) → MixState
with_part bytes n = grouped bytes (12 * n) (words_after bytes n)

run-last : (bytes : List ℕ) (p n : ℕ) (s : MixState)
    → mixed_groups bytes p (suc n) s ≡ mixed (grouped bytes (p + 12 * n) (mixed_groups bytes p n s))
unfolding mixed_groups
run-last bytes p zero s = rw (add-zero p) refl
run-last bytes p (suc n) s =
    let s' = mixed (grouped bytes p s) in
    let e : p + 12 + 12 * n ≡ p + 12 * suc n = omega arith in
    run-last bytes (p + 12) n s' ∙ ap (λ (q : ℕ). mixed (grouped bytes q (mixed_groups bytes (p + 12) n s'))) e

next : (bytes : List ℕ) (n : ℕ) → words_after bytes (suc n) ≡ mixed (with_part bytes n)
next bytes n =
    let e : 0 + 12 * n ≡ 12 * n = omega arith in
    run-last bytes 0 n (begun (length bytes)) ∙ ap (λ (q : ℕ). mixed (grouped bytes q (words_after bytes n))) e

with-fit : (bytes : List ℕ) (n : ℕ) → Fit (with_part bytes n)
with-fit bytes n = record { a = add_lt _ _; b = add_lt _ _; c = add_lt _ _ }

words-fit : (bytes : List ℕ) (n : ℕ) → Fit (words_after bytes n)
unfolding mixed_groups
words-fit bytes zero = record { a = add_lt _ _; b = add_lt _ _; c = add_lt _ _ }
words-fit bytes (suc n) = subst Fit (sym (next bytes n)) (mix-undone.keeps (with_part bytes n) (with-fit bytes n))

ends : (bytes : List ℕ) → final_words bytes ≡ final_mixed (with_part bytes (groups_of (length bytes)))
ends bytes =
    let g : ℕ = groups_of (length bytes) in
    ap final_mixed (sym (tail-group bytes (12 * g) (omega arith) (words-fit bytes g)))

-- ---- the same bytes, the same words

module _ (xs ys : List ℕ) (q : ℕ) where
  word-before : take q xs ≡ take q ys → (p : ℕ) → p + 4 ≤ q → le_at xs p 4 ≡ le_at ys p 4
  unfolding le_at
  word-before e p h = within xs ∙ ap (λ (zs : List ℕ). value (take 4 (drop p zs))) e ∙ sym (within ys)
    where
      within : (zs : List ℕ) → le_at zs p 4 ≡ value (take 4 (drop p (take q zs)))
      within zs =
          let n : q ≡ p + (q - p) = omega arith in
          let front : drop p (take q zs) ≡ take (q - p) (drop p zs) =
          ap (λ (k : ℕ). drop p (take k zs)) n ∙ drop-take p (q - p) zs in
          ap value (sym (take-take 4 (q - p) (drop p zs) (omega arith)) ∙ ap (take 4) (sym front))

  word-behind : drop q xs ≡ drop q ys → (p : ℕ) → q ≤ p → le_at xs p 4 ≡ le_at ys p 4
  word-behind e p h = there xs ∙ ap (λ (zs : List ℕ). le_at zs (p - q) 4) e ∙ sym (there ys)
    where
      there : (zs : List ℕ) → le_at zs p 4 ≡ le_at (drop q zs) (p - q) 4
      there zs =
          let n : q + (p - q) ≡ p = omega arith in
          ap (λ (k : ℕ). le_at zs k 4) (sym n) ∙ sym (le_at-drop zs q (p - q) 4)

  words-before : length xs ≡ length ys → take q xs ≡ take q ys → (n : ℕ) → 12 * n ≤ q
      → words_after xs n ≡ words_after ys n
  unfolding mixed_groups
  words-before l e zero h = ap begun l
  words-before l e (suc n) h =
      let same = words-before l e n (omega arith) in
      let a = word-before e (12 * n) (omega arith) in
      let b = word-before e (12 * n + 4) (omega arith) in
      let c = word-before e (12 * n + 8) (omega arith) in
      next xs n
      ∙ (λ i. mixed (record {
        a = add32 (same i).a (a i);
        b = add32 (same i).b (b i);
        c = add32 (same i).c (c i);
      }))
      ∙ sym (next ys n)

-- ---- the same words, the same bytes

add_same : (x y z : ℕ) → y < 2 ^ 32 → z < 2 ^ 32 → add32 x y ≡ add32 x z → y ≡ z
add_same x y z h l e = omega arith

same_added : (x y z : ℕ) → x < 2 ^ 32 → y < 2 ^ 32 → add32 x z ≡ add32 y z → x ≡ y
same_added x y z h l e = omega arith

-- bytes are told by their number
le-value : (bs : List ℕ) → ((j : ℕ) → slice_index bs j < 256) → le (length bs) (value bs) ≡ bs
unfolding le value
le-value [] h = refl
le-value (b ∷ bs) h =
    let low : (b + value bs * 256) % 256 ≡ b = omega (arith, h 0) in
    let high : (b + value bs * 256) / 256 ≡ value bs = omega (arith, h 0) in
    rw (low, high, le-value bs (λ j. h (suc j))) refl

module _ {xs : List ℕ} (b : Bytes xs) (p : ℕ) where
  four-bytes : (j : ℕ) → slice_index (take 4 (drop p xs)) j < 256
  four-bytes j =
      elim (cases_lt j 4) [
        | inl l ↦ rw (get_or-take 4 (drop p xs) j 0 l, get_or-drop p xs j 0) (b.below (p + j))
        | inr l ↦
            let past : length (take 4 (drop p xs)) ≤ j = omega (arith, length-take {A = ℕ} 4 (drop p xs)) in
            rw (get_or_past (take 4 (drop p xs)) j 0 past) (omega arith)
      ]

  four-lt : le_at xs p 4 < 2 ^ 32
  unfolding le_at
  four-lt =
      let n : ℕ = length (take 4 (drop p xs)) in
      let most : n ≤ 4 = omega (arith, length-take {A = ℕ} 4 (drop p xs)) in
      omega (arith, value-lt (take 4 (drop p xs)) four-bytes, pow_mono {i = 8 * n} {j = 32} (omega arith))

-- what stands behind a place is four bytes and what stands behind these
four : (zs : List ℕ) (p : ℕ) → take 4 (drop p zs) ++ drop (p + 4) zs ≡ drop p zs
four zs p =
    ap (λ (ws : List ℕ). take 4 (drop p zs) ++ ws) (sym (drop-drop 4 p zs)) ∙ take-append-drop 4 (drop p zs)

-- ---- the part that differs

module _ {xs ys : List ℕ} {j : ℕ} (d : OnePart xs ys j) where
  four-same : (p : ℕ) → le_at xs p 4 ≡ le_at ys p 4 → take 4 (drop p xs) ≡ take 4 (drop p ys)
  unfolding le_at
  four-same p e =
      let short = λ (zs : List ℕ). length-take {A = ℕ} 4 (drop p zs) ∙ ap (min 4) (length-drop p zs) in
      let n : length (take 4 (drop p xs)) ≡ length (take 4 (drop p ys)) =
      short xs ∙ ap (λ (k : ℕ). min 4 (k - p)) d.lengths ∙ sym (short ys) in
      sym (le-value (take 4 (drop p xs)) (four-bytes d.bytes p))
      ∙ (λ i. le (n i) (e i))
      ∙ le-value (take 4 (drop p ys)) (four-bytes d.others p)

  drop-same : (p q : ℕ) → q ≡ p + 4 → take 4 (drop p xs) ≡ take 4 (drop p ys) → drop q xs ≡ drop q ys
      → drop p xs ≡ drop p ys
  drop-same p q h e f =
      let rest = subst (λ (n : ℕ). drop n xs ≡ drop n ys) h f in
      sym (four xs p) ∙ (λ i. e i ++ rest i) ∙ four ys p

  -- behind the part the words that are added are the same, so those before were
  behind-same : (n : ℕ) → j < n → with_part xs n ≡ with_part ys n → words_after xs n ≡ words_after ys n
  behind-same n h e =
      let q : ℕ = 12 * j + 12 in
      let f = words-fit xs n in
      let g = words-fit ys n in
      let same = word-behind xs ys q d.behind in
      let added = λ (p x y : ℕ) (l : q ≤ p) (f : x < 2 ^ 32) (g : y < 2 ^ 32)
      (e : add32 x (le_at xs p 4) ≡ add32 y (le_at ys p 4)).
      same_added x y (le_at ys p 4) f g (ap (add32 x) (sym (same p l)) ∙ e) in
      let a = added (12 * n) _ _ (omega arith) f.a g.a (ap (λ (t : MixState). t.a) e) in
      let b = added (12 * n + 4) _ _ (omega arith) f.b g.b (ap (λ (t : MixState). t.b) e) in
      let c = added (12 * n + 8) _ _ (omega arith) f.c g.c (ap (λ (t : MixState). t.c) e) in
      λ i. record { a = a i; b = b i; c = c i }

  back : (n k : ℕ) → n ≡ j + k → with_part xs n ≡ with_part ys n → with_part xs j ≡ with_part ys j
  back n zero h e =
      let here : n ≡ j = omega arith in
      subst (λ (m : ℕ). with_part xs m ≡ with_part ys m) here e
  back n (suc k) h e =
      let m : ℕ = j + k in
      let one : n ≡ suc m = omega arith in
      let there = subst (λ (i : ℕ). with_part xs i ≡ with_part ys i) one e in
      let words = behind-same (suc m) (omega arith) there in
      let mixes = sym (next xs m) ∙ words ∙ next ys m in
      back m k refl ((undone-tells mix-undone).tells _ _ (with-fit xs m) (with-fit ys m) mixes)

  part-same : with_part xs j ≡ with_part ys j → ⊥
  part-same e =
      let q : ℕ = 12 * j in
      let s : MixState = words_after xs j in
      let words = words-before xs ys q d.lengths d.before j (omega arith) in
      let group : grouped xs q s ≡ grouped ys q s = e ∙ ap (grouped ys q) (sym words) in
      let told = λ (p x : ℕ) (e : add32 x (le_at xs p 4) ≡ add32 x (le_at ys p 4)).
      four-same p (add_same x _ _ (four-lt d.bytes p) (four-lt d.others p) e) in
      let a = told q s.a (ap (λ (t : MixState). t.a) group) in
      let b = told (q + 4) s.b (ap (λ (t : MixState). t.b) group) in
      let c = told (q + 8) s.c (ap (λ (t : MixState). t.c) group) in
      let behind = drop-same (q + 8) (q + 12) (omega arith) c d.behind in
      let from = drop-same q (q + 4) (omega arith) a (drop-same (q + 4) (q + 8) (omega arith) b behind) in
      d.differ (sym (take-append-drop q xs) ∙ (λ i. d.before i ++ from i) ∙ take-append-drop q ys)

-- ---- the laws

pub groups-show : GroupsShow
groups-show = record {
  shows = λ xs ys j d e.
      part-same d.part
      ((undone-tells mix-undone).tells _ _ (with-fit xs j) (with-fit ys j) (sym (next xs j) ∙ e ∙ next ys j));
}

parts_show : (xs ys : List ℕ) (j : ℕ) → OnePart xs ys j → final_words xs ≡ final_words ys → ⊥
parts_show xs ys j d e =
    let g : ℕ = groups_of (length xs) in
    let count = ap (λ (n : ℕ). final_mixed (with_part ys (groups_of n))) (sym d.lengths) in
    elim (cases_lt g j) [
      | inl l ↦
          let all = λ (zs : List ℕ) (h : length zs ≡ length xs). take_all (12 * j) zs (omega (arith, l, h)) in
          d.differ (sym (all xs refl) ∙ d.before ∙ all ys (sym d.lengths))
      | inr l ↦
          let words = (undone-tells final-undone).tells _ _ (with-fit xs g) (with-fit ys g)
          (sym (ends xs) ∙ e ∙ ends ys ∙ count) in
          part-same d (back d g (g - j) (omega arith) words)
    ]

third-word : (bytes : List ℕ) → 0 < length bytes → (final_words bytes).c ≡ hashlittle bytes
unfolding hashlittle
third-word bytes h =
    let some : length (tail_of bytes) ≡ 0 → ⊥ =
    λ z. absurd (omega (arith, h, z, length-drop (12 * groups_of (length bytes)) bytes)) in
    rw (ne_eqb (length (tail_of bytes)) 0 some) refl

pub parts-show : PartsShow
parts-show = record { shows = parts_show; third = third-word }
