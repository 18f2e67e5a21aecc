-- Sums of lists and of their front parts.
use Rattle.std.proofs.Common.{ℕ, ◌+◌, ◌-◌, ◌≤◌, ◌<◌, ◌≡◌, ap, ◌∙◌, List, [], ◌∷◌, ◌++◌, length, take, drop}
use Rattle.std.proofs.Common.{take-suc, take-add, add-one, arith}
use Rattle.std.specs.Prelude.{slice_index}
use Rattle.numbers.specs.Sums.{sum}

pub sum-append : (xs ys : List ℕ) → sum (xs ++ ys) ≡ sum xs + sum ys
unfolding sum
sum-append [] ys = omega arith
sum-append (x ∷ xs) ys = omega (arith, sum-append xs ys)

pub sum-take-suc : (l : List ℕ) (i : ℕ) → i < length l → sum (take (i + 1) l) ≡ sum (take i l) + slice_index l i
unfolding sum
sum-take-suc l i h = rw (add-one, take-suc l i 0 h) (omega (arith, sum-append (take i l) (slice_index l i ∷ [])))

pub sum-take-le : (l : List ℕ) (i n : ℕ) → i ≤ n → sum (take i l) ≤ sum (take n l)
sum-take-le l i n h =
    let e : take n l ≡ take i l ++ take (n - i) (drop i l) =
    ap (λ (j : ℕ). take j l) (let e : n ≡ i + (n - i) = omega arith in e) ∙ take-add i (n - i) l in
    rw e (omega (arith, sum-append (take i l) (take (n - i) (drop i l))))
