-- Numbers that are listed one after another.
use Rattle.std.specs.Prelude.{ℕ, ◌+◌, ◌<◌, List, [], ◌∷◌}

-- a list after these numbers were listed in it from an index on, each as `listed` says
unfoldable pub listed_from : (listed : List ℕ → ℕ → ℕ → List ℕ)
    → (places : List ℕ) (index : ℕ) (numbers : List ℕ) → List ℕ
listed_from listed places index [] = places
listed_from listed places index (number ∷ numbers) =
    listed_from listed (listed places index number) (index + 1) numbers

-- a list of so many places takes a number at each of the first indices, as many as `needed`
pub record HasRoom (room : ℕ → ℕ → Type 0) (places needed : ℕ) : Type 0 where
  pub at : (index : ℕ) → index < needed → room places index
