-- What it is to undo, on states of three 32-bit words.
use Rattle.std.specs.Prelude.{◌≡◌, ◌<◌, ◌^◌}
use Rattle.checksum.specs.declared.mixing.MixState.{MixState}

-- three 32-bit words
pub record Fit (s : MixState) : Type 0 where
  pub a : s.a < 2 ^ 32
  pub b : s.b < 2 ^ 32
  pub c : s.c < 2 ^ 32

-- g undoes f, and f undoes g; both give 32-bit words
pub record Undoes (f g : MixState → MixState) : Type 0 where
  pub keeps : (s : MixState) → Fit s → Fit (f s)
  pub keeps_back : (s : MixState) → Fit s → Fit (g s)
  pub after : (s : MixState) → Fit s → g (f s) ≡ s
  pub before : (s : MixState) → Fit s → f (g s) ≡ s

-- states of which f makes the same are the same
pub record Injective (f : MixState → MixState) : Type 0 where
  pub tells : (s t : MixState) → Fit s → Fit t → f s ≡ f t → s ≡ t
