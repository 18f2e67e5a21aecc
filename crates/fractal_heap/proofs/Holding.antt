-- Numbers that stand one behind the other in a file: their bytes, and the fields that are read of them.
use Rattle.std.proofs.Common.{◌≡◌, refl, sym, ap, ap₂, ◌∙◌, ℕ, ◌+◌, ◌*◌, ◌^◌, ◌<◌, ◌≤◌, List, [], ◌∷◌, ◌++◌}
use Rattle.std.proofs.Common.{length, drop, true, append_assoc, take_at, drop_at, length-append, length-drop, drop-drop}
use Rattle.std.proofs.Common.{arith, mod-eq_of_lt}
use Rattle.std.proofs.lemmas.Grind.{common_steps}
use Rattle.std.specs.Prelude.{Ok}
use Rattle.fields.specs.LittleEndian.{le, le_at}
use Rattle.fields.specs.Widths.{legal}
use Rattle.fields.proofs.LittleEndian.{length-le, value-le}
use Rattle.fractal_heap.specs.Header.{fields_at, header_numbers, without_filters}
use Rattle.fractal_heap.specs.Spelling.{spelled, AllFit, field_widths}
use Rattle.fractal_heap.specs.declared.header.FractalHeapHeader.{FractalHeapHeader}

-- how many bytes they have
unfoldable pub span : (ws : List ℕ) → ℕ
span [] = 0
span (w ∷ ws) = w + span ws

-- the numbers of these widths stand in s from p on
unfoldable pub Held : (s : List ℕ) (p : ℕ) (ws ns : List ℕ) → Type 0
Held s p [] ns = ns ≡ []
Held s p (w ∷ ws) [] = ⊥
Held s p (w ∷ ws) (n ∷ ns) = (p + w ≤ length s) × (le_at s p w ≡ n) × Held s (p + w) ws ns

-- ---- bytes that stand somewhere

pub record There (s : List ℕ) (p w x : ℕ) (ys : List ℕ) : Type 0 where
  pub room : p + w ≤ length s
  pub reads : le_at s p w ≡ x
  pub behind : drop (p + w) s ≡ ys

pub number_there : (s : List ℕ) (p w x : ℕ) (ys : List ℕ) → p ≤ length s → x < 2 ^ (8 * w)
    → drop p s ≡ le w x ++ ys → There s p w x ys
unfolding le_at
number_there s p w x ys there fits e =
    let n : length (le w x) ≡ w = length-le w x in
    record {
      room = omega (arith, n, length-append (le w x) ys, ap (length {A = ℕ}) e, length-drop p s);
      reads = rw (e, take_at (le w x) ys w n, value-le w x) (mod-eq_of_lt fits);
      behind = sym (drop-drop w p s) ∙ ap (drop w) e ∙ drop_at (le w x) ys w n;
    }

-- as many numbers as widths
unfoldable pub Paired : (ws ns : List ℕ) → Type 0
Paired [] ns = ns ≡ []
Paired (w ∷ ws) [] = ⊥
Paired (w ∷ ws) (n ∷ ns) = Paired ws ns

pub spelled-held : (ws ns : List ℕ) (s : List ℕ) (p : ℕ) (rest : List ℕ) → Paired ws ns → p ≤ length s → AllFit ws ns
    → drop p s ≡ spelled ws ns ++ rest → Held s p ws ns
unfolding spelled AllFit Held Paired
spelled-held [] ns s p rest q l fits e = q
spelled-held (w ∷ ws) [] s p rest q l fits e = q
spelled-held (w ∷ ws) (n ∷ ns) s p rest q l fits e =
    let t = number_there s p w n (spelled ws ns ++ rest) l fits.0 (e ∙ append_assoc (le w n) (spelled ws ns) rest) in
    (t.room, t.reads, spelled-held ws ns s (p + w) rest q t.room fits.1 t.behind)

pub length-spelled : (ws ns : List ℕ) → Paired ws ns → length (spelled ws ns) ≡ span ws
unfolding spelled span Paired
length-spelled [] ns q = refl
length-spelled (w ∷ ws) [] q = absurd q
length-spelled (w ∷ ws) (n ∷ ns) q =
    length-append (le w n) (spelled ws ns) ∙ ap₂ (λ (a b : ℕ). a + b) (length-le w n) (length-spelled ws ns q)

-- ---- what stands there is read

pub held-read : (h : FractalHeapHeader) (s : List ℕ) (p os ls : ℕ) → legal os ≡ true → legal ls ≡ true
    → Held s p (field_widths os ls) (header_numbers h)
    → fields_at s p os ls ≡ Ok (without_filters h, p + span (field_widths os ls))
unfolding Held span
held-read h s p os ls go gl H = grind (arith, common_steps)
