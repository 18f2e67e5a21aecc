-- Laws of the widths of addresses and lengths.
use Rattle.std.proofs.Common.{◌≡◌, ℕ, ◌≤◌, true, refl, arith}
use Rattle.std.proofs.lemmas.Bool.Decides.{nat_tests}
use Rattle.fields.specs.Widths.{legal, byte_count}
use Rattle.fields.specs.declared.width.Width.{Width}
use Rattle.fields.specs.declared.width.Width.TheVariants.{Two, Four, Eight}

-- a width that is neither 2 nor 4 is 8
pub legal-eight : (w : ℕ) → legal w ≡ true → (w ≡ 2 → ⊥) → (w ≡ 4 → ⊥) → w ≡ 8
legal-eight w h a b = grind (arith, nat_tests)

pub legal-small : (w : ℕ) → legal w ≡ true → w ≤ 8
legal-small w h = grind (arith, nat_tests)

pub legal_width : (width : Width) → legal (byte_count width) ≡ true
legal_width Two = refl
legal_width Four = refl
legal_width Eight = refl
