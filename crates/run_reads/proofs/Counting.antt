-- The cases of a list, one by one.
use Rattle.std.proofs.Common.{◌≡◌, ℕ, zero, suc, ◌+◌, ◌-◌, ◌<◌, ◌≤◌, List, [], ◌∷◌, drop, length, Bool, true, false}
use Rattle.std.proofs.Common.{refl, sym, ap, ◌∙◌, arith}
use Rattle.std.proofs.lemmas.List.{length-drop}
use Rattle.std.proofs.lemmas.List.Sums.{sum_by-cons}
use Rattle.std.specs.Prelude.{if◌then◌else◌}
use Rattle.std.specs.List.{sum_by, count_by}
use Rattle.run_reads.specs.Cases.{begins_case, case_size, cases_behind, cases_of}

-- the bytes of the case before are passed
behind-drop : (n : ℕ) (s : List ℕ) → cases_behind n s ≡ cases_of (drop n s)
unfolding cases_behind
behind-drop zero s = refl
behind-drop (suc n) [] = refl
behind-drop (suc n) (b ∷ bs) = behind-drop n bs

-- fewer bytes passed behind the first
drop-behind : (n b : ℕ) (bs : List ℕ) → 0 < n → drop n (b ∷ bs) ≡ drop (n - 1) bs
drop-behind zero b bs some = absurd (omega (arith, some))
drop-behind (suc n) b bs some = let e : suc n - 1 ≡ n = omega arith in rw e

-- a case, and those behind it
cases_more : (s : List ℕ) → begins_case s ≡ true → cases_of s ≡ s ∷ cases_of (drop (case_size s) s)
unfolding cases_behind
cases_more [] begins = absurd cc
cases_more (b ∷ bs) begins =
    let rest : cases_behind (case_size (b ∷ bs) - 1) bs ≡ cases_of (drop (case_size (b ∷ bs)) (b ∷ bs)) =
    behind-drop (case_size (b ∷ bs) - 1) bs ∙ ap cases_of (sym (drop-behind (case_size (b ∷ bs)) b bs (omega arith))) in
    rw begins (ap (λ cs. (b ∷ bs) ∷ cs) rest)

-- no case
cases_none : (s : List ℕ) → begins_case s ≡ false → cases_of s ≡ []
unfolding cases_behind
cases_none [] none = refl
cases_none (b ∷ bs) none = rw none

-- how many of the cases pass a test: the first, and those behind it
pub count_more : (p : List ℕ → Bool) (s t : List ℕ) → begins_case s ≡ true → t ≡ drop (case_size s) s
    → count_by p (cases_of s) ≡ (if p s then 1 else 0) + count_by p (cases_of t)
count_more p s t begins behind =
    rw (behind, cases_more s begins) (sum_by-cons (λ x. if p x then 1 else 0) s (cases_of (drop (case_size s) s)))

pub count_none : (p : List ℕ → Bool) (s : List ℕ) → begins_case s ≡ false → count_by p (cases_of s) ≡ 0
count_none p s none = rw (cases_none s none)

-- how many bytes they have
pub sum_more : (s t : List ℕ) → begins_case s ≡ true → t ≡ drop (case_size s) s
    → sum_by case_size (cases_of s) ≡ case_size s + sum_by case_size (cases_of t)
sum_more s t begins behind =
    rw (behind, cases_more s begins) (sum_by-cons case_size s (cases_of (drop (case_size s) s)))

pub sum_none : (s : List ℕ) → begins_case s ≡ false → sum_by case_size (cases_of s) ≡ 0
sum_none s none = rw (cases_none s none)

-- what is behind a case is shorter by as many bytes
pub length_behind : (s t : List ℕ) → case_size s ≤ length s → t ≡ drop (case_size s) s
    → length s ≡ case_size s + length t
length_behind s t whole behind = rw (behind, length-drop) (omega arith)

-- what counting goes by, and summing
pub ruleset counting = (count_more, count_none, length_behind)

pub ruleset summing = (sum_more, sum_none, length_behind)
