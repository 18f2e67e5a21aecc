-- Sums of lists, and a test as a number.
use Rattle.std.specs.Prelude.{ℕ, ◌+◌, List, [], ◌∷◌, Bool, true, false}

unfoldable pub sum : (numbers : List ℕ) → ℕ
sum [] = 0
sum (x ∷ xs) = x + sum xs

-- 1 where a test passes, else 0
abbrev pub bit : (test : Bool) → ℕ
bit true = 1
bit false = 0
