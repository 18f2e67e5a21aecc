-- The tests before planning: the sizes one by one, and what holds where all tests pass.
use Rattle.std.proofs.Common.{◌≡◌, ℕ, zero, suc, ◌+◌, ◌<◌, ◌≤◌, max, true, List, [], ◌∷◌, length, drop, slice_index, Ok}
use Rattle.std.proofs.Common.{Err, arith}
use Rattle.std.proofs.lemmas.Bool.Decides.{nat_tests}
use Rattle.std.proofs.lemmas.List.{drop_more, drop_all}
use Rattle.fields.specs.Widths.{legal}
use Rattle.refusals.specs.declared.FormatError.TheVariants.{ObjectTooLarge, HeapSpaceExhausted}
use Rattle.table.specs.Table.{fixed}
use Rattle.table.specs.Sizes.{max_managed}
use Rattle.plan.specs.Checks.{sizes_checked, input_checked}

-- ---- one size

-- the i-th is the first above the limit
pub size_large : (limit : ℕ) (xs : List ℕ) (i : ℕ) → i < length xs → limit < slice_index xs i
    → sizes_checked limit i (drop i xs) ≡ Err (ObjectTooLarge i (slice_index xs i))
unfolding sizes_checked
size_large limit xs i h l = grind (arith, nat_tests, drop_more)

-- the i-th is not
pub size_small : (limit : ℕ) (xs : List ℕ) (i : ℕ) → i < length xs → slice_index xs i ≤ limit
    → sizes_checked limit i (drop i xs) ≡ sizes_checked limit (i + 1) (drop (i + 1) xs)
unfolding sizes_checked
size_small limit xs i h l = grind (arith, nat_tests, drop_more)

-- none is left
pub sizes_passed : (limit : ℕ) (xs : List ℕ) (i : ℕ) → length xs ≤ i → sizes_checked limit i (drop i xs) ≡ Ok tt
unfolding sizes_checked
sizes_passed limit xs i h = grind (arith, drop_all)

-- the three, for the loop over the sizes
pub ruleset sizes_in_turn = (size_large, size_small, sizes_passed)

-- no size is above the limit
pub all_small : (limit i : ℕ) (xs : List ℕ) → sizes_checked limit i xs ≡ Ok tt → (k : ℕ) → k < length xs
    → slice_index xs k ≤ limit
unfolding sizes_checked
all_small limit i [] e k l = absurd (omega arith)
all_small limit i (x ∷ xs) e zero l = grind (arith, nat_tests)
all_small limit i (x ∷ xs) e (suc k) l = grind (arith, nat_tests, all_small limit (suc i) xs)

-- no test of the sizes says that the heap space ends
sizes_other : (limit j : ℕ) (xs : List ℕ) (i : ℕ) → sizes_checked limit j xs ≡ Err (HeapSpaceExhausted i) → ⊥
unfolding sizes_checked
sizes_other limit j [] i e = cc
sizes_other limit j (x ∷ xs) i e = grind (arith, nat_tests, sizes_other limit (suc j) xs i)

-- ---- all tests

-- the tests pass
pub record Passing (xs : List ℕ) (o b w : ℕ) : Type 0 where
  pub width : legal w ≡ true
  pub offsets : length xs ≤ o
  pub blocks : max 1 (length xs) ≤ b
  pub sizes : sizes_checked (max_managed fixed w) 0 xs ≡ Ok tt

module _ (xs : List ℕ) (o b w : ℕ) where
  pub passing : input_checked xs o b w ≡ Ok tt → Passing xs o b w
  passing e = grind (arith, nat_tests)

  pub passed : Passing xs o b w → input_checked xs o b w ≡ Ok tt
  passed P = grind (arith, nat_tests)

  -- no test before planning says so
  pub tests-other : (i : ℕ) → input_checked xs o b w ≡ Err (HeapSpaceExhausted i) → ⊥
  tests-other i e = grind (arith, nat_tests, sizes_other (max_managed fixed w) 0 xs i)
