-- The words after each case of the switch. It adds what its tail's bytes are as words, four to each: so a tail is added
-- as a group is.
use Rattle.std.proofs.Common.{◌≡◌, ℕ, ◌+◌, ◌*◌, ◌^◌, ◌<◌, ◌≤◌, List, [], ◌∷◌, length, take, drop, refl, ◌∙◌, add-zero}
use Rattle.std.proofs.Common.{zero, suc, ◌-◌, sym, ap, ne_eqb, arith, length-drop, pow-add}
use Rattle.std.proofs.lemmas.Bool.Decides.{nat_tests}
use Rattle.fields.specs.LittleEndian.{le_at, value}
use Rattle.fields.proofs.LittleEndian.{le_at-drop}
use Rattle.checksum.specs.Words.{add32}
use Rattle.checksum.specs.Mix.{final_mixed}
use Rattle.checksum.specs.declared.mixing.MixState.{MixState}
use Rattle.checksum.specs.Undoing.{Fit}
use Rattle.checksum.specs.Lookup3.{group_size, grouped, case_met, switched, passed, after, plus, ended}

-- ---- the words after each case

pub after_none : (tail : List ℕ) (s : MixState) → after (group_size + 1) tail s ≡ s
unfolding after passed
after_none tail s = refl

pub after_case : (n : ℕ) (tail : List ℕ) (s : MixState) → 0 < n → n ≤ group_size
    → after n tail s ≡ case_met n tail (after (n + 1) tail s)
unfolding after passed
after_case n tail s p h =
    let more : 13 - n ≡ suc (12 - n) = omega arith in
    let same : 12 - (12 - n) ≡ n = omega arith in
    let next : 13 - (n + 1) ≡ 12 - n = omega arith in
    rw (more, next, passed, same) refl

-- what is left of the switch behind so many cases makes the whole of the words there
left : (done : ℕ) (tail : List ℕ) (s : MixState) → done ≤ group_size
    → switched group_size tail s ≡ switched (group_size - done) tail (passed done tail s)
unfolding passed switched
left zero tail s h = refl
left (suc done) tail s h =
    let more : 12 - done ≡ suc (12 - suc done) = omega arith in
    left done tail s (omega arith) ∙ rw (more, switched) refl

pub after_rest : (n : ℕ) (tail : List ℕ) (s : MixState) → n ≤ group_size
    → switched group_size tail s ≡ switched n tail (after (n + 1) tail s)
unfolding after
after_rest n tail s h =
    let done : 13 - (n + 1) ≡ 12 - n = omega arith in
    let more : 12 - (12 - n) ≡ n = omega arith in
    left (12 - n) tail s (omega arith) ∙ rw (done, more) refl

after_last : (tail : List ℕ) (s : MixState) → after 1 tail s ≡ switched group_size tail s
unfolding switched
after_last tail s = sym (after_rest 0 tail s (omega arith))

-- a tail enters at the case of its length: the cases above are not met
not_met : (done : ℕ) (tail : List ℕ) (s : MixState) → length tail + done ≤ group_size → passed done tail s ≡ s
unfolding passed
not_met zero tail s h = refl
not_met (suc done) tail s h = grind (arith, nat_tests, not_met done tail s (omega arith))

pub after_above : (n : ℕ) (tail : List ℕ) (s : MixState) → length tail < n → n ≤ group_size + 1
    → after n tail s ≡ s
unfolding after
after_above n tail s h m = not_met (13 - n) tail s (omega arith)

-- ---- what the cases have added, apart from the words before them

pub add_assoc : (x y z : ℕ) → add32 (add32 x y) z ≡ add32 x (add32 y z)
add_assoc x y z = omega arith

add_none : {x : ℕ} → x < 2 ^ 32 → add32 x 0 ≡ x
add_none h = omega arith

pub plus_none : (s : MixState) → Fit s → plus s (record { a = 0; b = 0; c = 0 }) ≡ s
plus_none s f = λ i. record { a = add_none f.a i; b = add_none f.b i; c = add_none f.c i }

-- ---- the end

pub ended_none : (tail : List ℕ) (s : MixState) → length tail ≡ 0 → s.c ≡ ended tail s
ended_none tail s h = grind (arith, nat_tests)

pub ended_some : (tail : List ℕ) (s : MixState) → 0 < length tail
    → (final_mixed (after 1 tail s)).c ≡ ended tail s
ended_some tail s h = rw (ne_eqb (length tail) 0 (λ z. absurd (omega arith)), after_last tail s) refl

-- ---- for a case that falls through to the next, and for the case that a tail enters at

pub ruleset next_case = (after_case, add_assoc)

pub ruleset entering = (after_above, plus_none, ended_none, ended_some)

-- ---- what the switch adds

-- the cases of one word from the last down, the first shifted by k bits
unfoldable added : ℕ → ℕ → List ℕ → ℕ
added k x [] = x
added k x (b ∷ bs) = add32 (added (k + 8) x bs) (b * 2 ^ k)

added_is : (k x : ℕ) (bs : List ℕ) → x < 2 ^ 32 → added k x bs ≡ add32 x (value bs * 2 ^ k)
unfolding added value
added_is k x [] h = omega arith
added_is k x (b ∷ bs) h = rw (added_is (k + 8) x bs h, pow-add 2 k 8) (omega arith)

added-word : {x : ℕ} (bs : List ℕ) → x < 2 ^ 32 → added 0 x bs ≡ add32 x (value bs)
added-word {x} bs h = added_is 0 x bs h ∙ omega arith

-- the switch adds the bytes to their words, for a tail of each length
switch-adds : (tail : List ℕ) (s : MixState) → length tail ≤ group_size
    → switched group_size tail s
    ≡ record {
      a = added 0 s.a (take 4 tail);
      b = added 0 s.b (take 4 (drop 4 tail));
      c = added 0 s.c (take 4 (drop 8 tail));
    }
unfolding switched added
switch-adds [] s k = refl
switch-adds (x0 ∷ []) s k = refl
switch-adds (x0 ∷ x1 ∷ []) s k = refl
switch-adds (x0 ∷ x1 ∷ x2 ∷ []) s k = refl
switch-adds (x0 ∷ x1 ∷ x2 ∷ x3 ∷ []) s k = refl
switch-adds (x0 ∷ x1 ∷ x2 ∷ x3 ∷ x4 ∷ []) s k = refl
switch-adds (x0 ∷ x1 ∷ x2 ∷ x3 ∷ x4 ∷ x5 ∷ []) s k = refl
switch-adds (x0 ∷ x1 ∷ x2 ∷ x3 ∷ x4 ∷ x5 ∷ x6 ∷ []) s k = refl
switch-adds (x0 ∷ x1 ∷ x2 ∷ x3 ∷ x4 ∷ x5 ∷ x6 ∷ x7 ∷ []) s k = refl
switch-adds (x0 ∷ x1 ∷ x2 ∷ x3 ∷ x4 ∷ x5 ∷ x6 ∷ x7 ∷ x8 ∷ []) s k = refl
switch-adds (x0 ∷ x1 ∷ x2 ∷ x3 ∷ x4 ∷ x5 ∷ x6 ∷ x7 ∷ x8 ∷ x9 ∷ []) s k = refl
switch-adds (x0 ∷ x1 ∷ x2 ∷ x3 ∷ x4 ∷ x5 ∷ x6 ∷ x7 ∷ x8 ∷ x9 ∷ x10 ∷ []) s k = refl
switch-adds (x0 ∷ x1 ∷ x2 ∷ x3 ∷ x4 ∷ x5 ∷ x6 ∷ x7 ∷ x8 ∷ x9 ∷ x10 ∷ x11 ∷ []) s k = refl
switch-adds (x0 ∷ x1 ∷ x2 ∷ x3 ∷ x4 ∷ x5 ∷ x6 ∷ x7 ∷ x8 ∷ x9 ∷ x10 ∷ x11 ∷ x12 ∷ xs) s k = absurd (omega arith)

pub switch-words : (tail : List ℕ) (s : MixState) → Fit s → length tail ≤ group_size
    → switched group_size tail s ≡ grouped tail 0 s
unfolding le_at
switch-words tail s f k =
    switch-adds tail s k
    ∙ (λ i. record {
      a = added-word (take 4 tail) f.a i;
      b = added-word (take 4 (drop 4 tail)) f.b i;
      c = added-word (take 4 (drop 8 tail)) f.c i;
    })

-- so a tail, read at its place in the bytes, is added as a group is
pub tail-group : (bytes : List ℕ) (at : ℕ) {s : MixState} → length bytes ≤ at + group_size → Fit s
    → grouped bytes at s ≡ switched group_size (drop at bytes) s
tail-group bytes at {s} most f =
    let words = switch-words (drop at bytes) s f (rw (length-drop at bytes) (omega (arith, most))) in
    rw (words, le_at-drop bytes at 0 4, le_at-drop bytes at 4 4, le_at-drop bytes at 8 4, add-zero at) refl

tail_ended : (bytes : List ℕ) (at : ℕ) {s : MixState} → at < length bytes → length bytes ≤ at + group_size → Fit s
    → ended (drop at bytes) s ≡ (final_mixed (grouped bytes at s)).c
tail_ended bytes at {s} some most f =
    let more : 0 < length (drop at bytes) = rw (length-drop at bytes) (omega (arith, some)) in
    sym (ended_some (drop at bytes) s more)
    ∙ ap (λ (t : MixState). (final_mixed t).c) (after_last (drop at bytes) s ∙ sym (tail-group bytes at most f))

-- tails that make the same of their words have the same end
pub tails_end_alike : (xs ys : List ℕ) (at : ℕ) {s t : MixState} → length xs ≡ length ys → at < length xs
    → length xs ≤ at + group_size → Fit s → Fit t → grouped xs at s ≡ grouped ys at t
    → ended (drop at xs) s ≡ ended (drop at ys) t
tails_end_alike xs ys at e some most f g same =
    tail_ended xs at some most f
    ∙ ap (λ (w : MixState). (final_mixed w).c) same
    ∙ sym (tail_ended ys at (omega arith) (omega arith) g)
