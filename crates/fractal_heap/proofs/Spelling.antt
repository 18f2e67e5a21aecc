-- What is spelled is read.
use Rattle.std.proofs.Common.{◌≡◌, refl, sym, ap, ◌∙◌, ℕ, ◌+◌, ◌*◌, ◌^◌, ◌-◌, ◌<◌, ◌≤◌, List, ◌∷◌, ◌++◌}
use Rattle.std.proofs.Common.{length, take, drop, true, append_assoc, take_at, drop_at, length-append, length-drop}
use Rattle.std.proofs.Common.{drop-drop, ne_eqb, get_or-drop, arith}
use Rattle.std.proofs.lemmas.Bool.Decides.{nat_tests}
use Rattle.std.specs.Prelude.{slice_index, Ok}
use Rattle.fields.specs.LittleEndian.{le, le_at}
use Rattle.fields.specs.Widths.{legal}
use Rattle.fields.specs.Signatures.{header_signature}
use Rattle.checksum.specs.Lookup3.{groups_of, tail_of, hashlittle}
use Rattle.fractal_heap.specs.Frame.{start_checked, sum_checked}
use Rattle.fractal_heap.specs.Header.{fields_at, header_at, header_numbers, without_filters}
use Rattle.fractal_heap.specs.Spelling.{spelled, AllFit, field_widths, unsummed, header_spelled}
use Rattle.fractal_heap.specs.SpellingLaws.{SpelledIsRead}
use Rattle.fractal_heap.specs.declared.header.FractalHeapHeader.{FractalHeapHeader}
use Rattle.fractal_heap.proofs.Holding.{span, Paired, There, number_there, spelled-held, length-spelled, held-read}

-- a checksum has four bytes
pub sum_fits : (bytes : List ℕ) → 0 < length bytes → hashlittle bytes < 2 ^ 32
unfolding hashlittle
sum_fits bytes some =
    let last : length (tail_of bytes) ≡ length bytes - 12 * groups_of (length bytes) =
    length-drop (12 * groups_of (length bytes)) bytes in
    rw (ne_eqb (length (tail_of bytes)) 0 (λ z. absurd (omega (arith, last, z, some)))) (omega arith)

pub paired : (h : FractalHeapHeader) (os ls : ℕ) → Paired (field_widths os ls) (header_numbers h)
unfolding Paired
paired h os ls = refl

-- signature and version stand before the fields
started : (s : List ℕ) (p : ℕ) (rest : List ℕ) → p ≤ length s → drop p s ≡ header_signature ++ 0 ∷ rest
    → (start_checked s p ≡ Ok (p + 5)) × (drop (p + 5) s ≡ rest)
started s p rest l e =
    let room : p + 5 ≤ length s = omega (arith, ap (length {A = ℕ}) e, length-drop p s) in
    let version : slice_index s (p + 4) ≡ 0 = sym (get_or-drop p s 4 0) ∙ ap (λ (t : List ℕ). slice_index t 4) e in
    (rw (e, version) (grind (arith, nat_tests, room)), sym (drop-drop 5 p s) ∙ ap (drop 5) e)

-- a checksum that stands where it is sought
summed : (s : List ℕ) (p q : ℕ) (bytes : List ℕ) → q + 4 ≤ length s → take (q - p) (drop p s) ≡ bytes
    → le_at s q 4 ≡ hashlittle bytes → sum_checked s p q ≡ Ok tt
summed s p q bytes room covered stored = rw (covered, stored) (grind (arith, nat_tests, room))

module _ (h : FractalHeapHeader) (s : List ℕ) (p os ls : ℕ) (rest : List ℕ)
    (go : legal os ≡ true) (gl : legal ls ≡ true) (fits : AllFit (field_widths os ls) (header_numbers h))
    (e : drop p s ≡ header_spelled h os ls ++ rest) where
  abbrev fields : List ℕ
  fields = spelled (field_widths os ls) (header_numbers h)

  abbrev sum : List ℕ
  sum = le 4 (hashlittle (unsummed h os ls))

  abbrev end : ℕ
  end = p + 5 + span (field_widths os ls)

  whole : drop p s ≡ unsummed h os ls ++ (sum ++ rest)
  whole = e ∙ append_assoc (unsummed h os ls) sum rest

  inside : p < length s
  inside = omega (arith, ap (length {A = ℕ}) whole, length-drop p s)

  start : (start_checked s p ≡ Ok (p + 5)) × (drop (p + 5) s ≡ fields ++ (sum ++ rest))
  start = started s p (fields ++ (sum ++ rest)) (omega (arith, inside)) whole

  length-fields : length fields ≡ span (field_widths os ls)
  length-fields = length-spelled (field_widths os ls) (header_numbers h) (paired h os ls)

  behind-start : p + 5 ≤ length s
  behind-start = omega (arith, inside, ap (length {A = ℕ}) whole, length-drop p s)

  behind-fields : end ≤ length s
  behind-fields =
      omega (
        arith,
        behind-start,
        ap (length {A = ℕ}) start.1,
        length-drop (p + 5) s,
        length-append fields (sum ++ rest),
        length-fields,
      )

  read : fields_at s (p + 5) os ls ≡ Ok (without_filters h, end)
  read =
      held-read h s (p + 5) os ls go gl
      (spelled-held (field_widths os ls) (header_numbers h) s (p + 5) (sum ++ rest) (paired h os ls) behind-start fits
      start.1)

  sum-there : There s end 4 (hashlittle (unsummed h os ls)) rest
  sum-there =
      number_there s end 4 (hashlittle (unsummed h os ls)) rest behind-fields
      (sum_fits (unsummed h os ls) (omega arith))
      (sym (drop-drop (span (field_widths os ls)) (p + 5) s)
      ∙ ap (drop (span (field_widths os ls))) start.1
      ∙ drop_at fields (sum ++ rest) (span (field_widths os ls)) length-fields)

  covered : take (end - p) (drop p s) ≡ unsummed h os ls
  covered =
      let n : length (unsummed h os ls) ≡ end - p = omega (arith, length-fields) in
      ap (take (end - p)) whole ∙ take_at (unsummed h os ls) (sum ++ rest) (end - p) n

  sum-right : sum_checked s p end ≡ Ok tt
  sum-right = summed s p end (unsummed h os ls) sum-there.room covered sum-there.reads

  header-read : h.io_filter_encoded_length ≡ 0 → header_at s p os ls ≡ Ok (without_filters h)
  header-read plain = rw (start.0, read, plain, sum-right) refl

pub spelled-read : SpelledIsRead
spelled-read h s p os ls rest go gl plain fits e = header-read h s p os ls rest go gl fits e plain
