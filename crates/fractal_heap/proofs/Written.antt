-- What an accepted header fulfils, and what is accepted.
use Rattle.std.proofs.Common.{◌≡◌, refl, sym, ap, ◌∙◌, take_at, append_assoc, length, length-append, take, drop}
use Rattle.std.proofs.Common.{drop-drop, ◌++◌, ℕ, zero, suc, ◌+◌, ◌≤◌, List, [], ◌∷◌, true, arith}
use Rattle.std.proofs.lemmas.Bool.Decides.{nat_tests}
use Rattle.std.proofs.lemmas.Grind.{common_steps}
use Rattle.std.proofs.lemmas.List.{append-nil}
use Rattle.std.specs.Prelude.{slice_index, nat_le, ◌==◌, Result, Ok, Err, OnOk}
use Rattle.refusals.specs.Steps.{◌>>=◌, required}
use Rattle.refusals.specs.declared.FormatError.{FormatError}
use Rattle.refusals.specs.declared.FormatError.TheVariants.{InvalidOffsetSize, InvalidLengthSize}
use Rattle.refusals.specs.declared.FormatError.TheVariants.{UnsupportedFilteredHeapObject}
use Rattle.fields.specs.Widths.{legal}
use Rattle.fields.specs.Writing.{Puts, written, behind}
use Rattle.fields.specs.declared.stores.writer.Writer.{Writer}
use Rattle.fractal_heap.specs.Header.{fields_size, header_numbers, header_of, parsed_numbers, without_filters}
use Rattle.checksum.specs.Lookup3.{hashlittle}
use Rattle.fields.specs.LittleEndian.{le, put}
use Rattle.fields.proofs.LittleEndian.{length-le, put_front}
use Rattle.fractal_heap.specs.Spelling.{AllFit, spelled, field_widths, unsummed, header_spelled}
use Rattle.fractal_heap.specs.Writing.{header_length, field_checked, widths_checked, header_checked, header_written}
use Rattle.fractal_heap.specs.Writing.{four_from, four_size, ReadsBack}
use Rattle.fractal_heap.specs.Writing.{ParsedReadsBack, WrittenBack}
use Rattle.fractal_heap.specs.declared.write.WrittenHeader.{WrittenHeader}
use Rattle.fractal_heap.specs.declared.header.FractalHeapHeader.{FractalHeapHeader}
use Rattle.fractal_heap.proofs.Holding.{span, length-spelled}
use Rattle.fractal_heap.proofs.Spelling.{paired, spelled-read}
use Rattle.fractal_heap.proofs.Reading.{bind_ok, required_ok, read_plain, read-spelled, read-widths}

pub widths_fit : (place : ℕ) (ws ns : List ℕ) → widths_checked place ws ns ≡ Ok tt → AllFit ws ns
unfolding widths_checked AllFit
widths_fit place [] ns e = tt
widths_fit place (w ∷ ws) [] e = tt
widths_fit place (w ∷ ws) (n ∷ ns) e = grind (arith, nat_tests, widths_fit (place + 1) ws ns)

pub fit_widths : (place : ℕ) (ws ns : List ℕ) → AllFit ws ns → widths_checked place ws ns ≡ Ok tt
unfolding widths_checked AllFit
fit_widths place [] ns f = refl
fit_widths place (w ∷ ws) [] f = refl
fit_widths place (w ∷ ws) (n ∷ ns) f = grind (arith, nat_tests, fit_widths (place + 1) ws ns f.1)

-- with no numbers left there is nothing to test
none_left : (place : ℕ) (ws : List ℕ) → widths_checked place ws [] ≡ Ok tt
unfolding widths_checked
none_left place [] = refl
none_left place (w ∷ ws) = refl

-- some tests, and those of the fields behind them
tested_behind : (k place : ℕ) (ws ns : List ℕ)
    → widths_checked place ws ns
    ≡ (widths_checked place (take k ws) (take k ns) >>= λ _. widths_checked (place + k) (drop k ws) (drop k ns))
unfolding widths_checked
tested_behind zero place ws ns = ap (λ (q : ℕ). widths_checked q ws ns) (omega arith)
tested_behind (suc k) place [] ns = refl
tested_behind (suc k) place (w ∷ ws) [] = sym (none_left (place + suc k) (drop k ws))
tested_behind (suc k) place (w ∷ ws) (n ∷ ns) =
    let next : place + suc k ≡ place + 1 + k = omega arith in
    rw next (grind (arith, common_steps, tested_behind k (place + 1) ws ns))

-- the test of the field at a place, and of the four from there on
abbrev pub one : (ns ws : List ℕ) (place : ℕ) → Result (Unit {0}) FormatError
one ns ws place = field_checked place (slice_index ws place) (slice_index ns place)

abbrev pub four : (ns ws : List ℕ) (place : ℕ) → Result (Unit {0}) FormatError
four ns ws place = widths_checked place (four_from place ws) (four_from place ns)

-- the fields behind four are tested so
behind_four : (place : ℕ) (ws ns : List ℕ) {r : Result (Unit {0}) FormatError}
    → widths_checked (place + 4) (drop 4 ws) (drop 4 ns) ≡ r
    → widths_checked place ws ns ≡ (widths_checked place (take 4 ws) (take 4 ns) >>= λ _. r)
behind_four place ws ns e = rw (← e) (tested_behind 4 place ws ns)

three : (os ls : ℕ) (ns : List ℕ)
    → widths_checked 20 (2 ∷ os ∷ 2 ∷ []) (slice_index ns 20 ∷ slice_index ns 21 ∷ slice_index ns 22 ∷ [])
    ≡ (one ns (field_widths os ls) 20 >>= λ _. one ns (field_widths os ls) 21 >>= λ _. one ns (field_widths os ls) 22)
unfolding widths_checked
three os ls ns = grind (arith, common_steps)

pub by_fours : (os ls : ℕ) (ns ws : List ℕ) → ws ≡ field_widths os ls
    → widths_checked 0 (field_widths os ls) (header_numbers (header_of ns))
    ≡ (four ns ws 0 >>= λ _. four ns ws 4 >>= λ _. four ns ws 8 >>= λ _. four ns ws 12 >>= λ _. four ns ws 16 >>= λ _.
    one ns ws 20 >>= λ _. one ns ws 21 >>= λ _. one ns ws 22)
by_fours os ls ns ws e =
    let W = field_widths os ls in
    let N = header_numbers (header_of ns) in
    rw e (behind_four 0 W N
    (behind_four 4 (drop 4 W) (drop 4 N)
    (behind_four 8 (drop 8 W) (drop 8 N)
    (behind_four 12 (drop 12 W) (drop 12 N)
    (behind_four 16 (drop 16 W) (drop 16 N)
    (three os ls ns))))))

-- what an accepted header fulfils
pub record Accepted (h : FractalHeapHeader) (os ls lent : ℕ) : Type 0 where
  pub offsets : legal os ≡ true
  pub lengths : legal ls ≡ true
  pub plain : h.io_filter_encoded_length ≡ 0
  pub fits : AllFit (field_widths os ls) (header_numbers h)
  pub room : header_length os ls ≤ lent

pub accepted : (h : FractalHeapHeader) (os ls lent : ℕ) → header_checked (header_numbers h) os ls lent ≡ Ok tt
    → Accepted h os ls lent
accepted h os ls lent e =
    let a = bind_ok (required (legal os) (InvalidOffsetSize os)) _ tt e in
    let b = bind_ok (required (legal ls) (InvalidLengthSize ls)) _ tt a.2 in
    let c = bind_ok (required (h.io_filter_encoded_length == 0) UnsupportedFilteredHeapObject) _ tt b.2 in
    let d = bind_ok (widths_checked 0 (field_widths os ls) (header_numbers h)) _ tt c.2 in
    let plain = required_ok (h.io_filter_encoded_length == 0) _ tt c.1 in
    let room = required_ok (nat_le (header_length os ls) lent) _ tt d.2 in
    record {
      offsets = required_ok (legal os) _ tt a.1;
      lengths = required_ok (legal ls) _ tt b.1;
      plain = grind (arith, nat_tests, plain);
      fits = widths_fit 0 (field_widths os ls) (header_numbers h) d.1;
      room = grind (arith, nat_tests, room);
    }

-- and what fulfils it is accepted
pub acceptable : (h : FractalHeapHeader) (os ls lent : ℕ) → Accepted h os ls lent
    → header_checked (header_numbers h) os ls lent ≡ Ok tt
acceptable h os ls lent a =
    grind (arith, common_steps, nat_tests, a, fit_widths 0 (field_widths os ls) (header_numbers h) a.fits)

-- ---- steps of a writer

-- two steps are one
pub puts-append : {a b c : Writer} {n m : ℕ} {xs ys : List ℕ} → Puts a b n xs → Puts b c m ys
    → Puts a c (n + m) (xs ++ ys)
puts-append {a} {b} {c} {n} {m} {xs} {ys} p q =
    record {
      same_reference = q.same_reference ∙ p.same_reference;
      at = omega (arith, p.at, q.at);
      len = q.len ∙ p.len;
      written = q.written ∙ ap (λ (zs : List ℕ). zs ++ ys) p.written ∙ append_assoc (written a) xs ys;
      behind = q.behind ∙ ap (drop m) p.behind ∙ drop-drop m n (behind a);
    }

-- so many bytes, and these, by other words
pub puts-as : {a b : Writer} {n m : ℕ} {xs ys : List ℕ} → Puts a b n xs → n ≡ m → xs ≡ ys → Puts a b m ys
puts-as p e f = rw (← e, ← f) p

abbrev pub spelled_four : (ns ws : List ℕ) (place : ℕ) → List ℕ
spelled_four ns ws place = spelled (four_from place ws) (four_from place ns)

abbrev pub spelled_one : (ns ws : List ℕ) (place : ℕ) → List ℕ
spelled_one ns ws place = le (slice_index ws place) (slice_index ns place)

pub spelled_by_fours : (os ls : ℕ) (ns ws : List ℕ) → ws ≡ field_widths os ls
    → spelled_four ns ws 0 ++ (spelled_four ns ws 4 ++ (spelled_four ns ws 8 ++ (spelled_four ns ws 12
    ++ (spelled_four ns ws 16 ++ (spelled_one ns ws 20 ++ (spelled_one ns ws 21 ++ spelled_one ns ws 22))))))
    ≡ spelled (field_widths os ls) (header_numbers (header_of ns))
unfolding spelled
spelled_by_fours os ls ns ws e = rw e (simp (append_assoc, append-nil))

pub width_by_fours : (os ls : ℕ) (ws : List ℕ) → ws ≡ field_widths os ls
    → four_size 0 ws + (four_size 4 ws + (four_size 8 ws + (four_size 12 ws + (four_size 16 ws
    + (slice_index ws 20 + (slice_index ws 21 + slice_index ws 22))))))
    ≡ fields_size os ls
width_by_fours os ls ws e = rw e (omega arith)

-- ---- the whole header

pub length-header_spelled : (h : FractalHeapHeader) (os ls : ℕ) → length (header_spelled h os ls) ≡ header_length os ls
unfolding span
length-header_spelled h os ls =
    let fields = spelled (field_widths os ls) (header_numbers h) in
    let n : length fields ≡ span (field_widths os ls) =
    length-spelled (field_widths os ls) (header_numbers h) (paired h os ls) in
    let sum = le 4 (hashlittle (unsummed h os ls)) in
    omega (arith, n, length-append (unsummed h os ls) sum, length-le 4 (hashlittle (unsummed h os ls)))

-- two parts in front of what was behind them
pub parts_put : (b u v : List ℕ) (x y z : List ℕ) (n : ℕ) → x ≡ u → y ≡ v → z ≡ drop n b → length (u ++ v) ≡ n
    → (x ++ y) ++ z ≡ put b 0 (u ++ v)
parts_put b u v x y z n e f g k = rw (e, f, g, ← k, put_front b (u ++ v)) refl

-- what follows from the tests holds of what is accepted
fits_then : (h : FractalHeapHeader) (os ls lent : ℕ) (w : WrittenHeader) (P : Type 0) → (Accepted h os ls lent → P)
    → (t : Result (Unit {0}) FormatError) → header_checked (header_numbers h) os ls lent ≡ t
    → OnOk (t >>= λ _. Ok w) P
fits_then h os ls lent w P then (Ok tt) e = then (accepted h os ls lent e)
fits_then h os ls lent w P then (Err d) e = tt

written_then : (h : FractalHeapHeader) (os ls lent : ℕ) (r : Result WrittenHeader FormatError) (P : Type 0)
    → (Accepted h os ls lent → P) → r ≡ header_written h os ls lent → OnOk r P
written_then h os ls lent r P then e = rw e (fits_then h os ls lent _ P then _ refl)

pub is_read_back : (h : FractalHeapHeader) (os ls lent : ℕ) (r : Result WrittenHeader FormatError)
    → r ≡ header_written h os ls lent → OnOk r (ReadsBack h os ls)
is_read_back h os ls lent r e =
    written_then h os ls lent r (ReadsBack h os ls)
    (λ a s p rest there. spelled-read h s p os ls rest a.offsets a.lengths a.plain a.fits there) e

-- a header that was parsed is read itself
pub parsed_is_read_back : (h : FractalHeapHeader) (os ls lent : ℕ) (r : Result WrittenHeader FormatError)
    → r ≡ header_written h os ls lent → OnOk r (ParsedReadsBack h os ls)
parsed_is_read_back h os ls lent r e =
    written_then h os ls lent r (ParsedReadsBack h os ls)
    (λ a file pos o l parsed s p rest there.
    spelled-read h s p os ls rest a.offsets a.lengths a.plain a.fits there
    ∙ ap Ok (read_plain h file pos o l parsed a.plain)) e

-- what holds of a header without what it has of filters: it is written back itself where it is read
pub filters_unread : (h : FractalHeapHeader) (os ls : ℕ) (r : Result WrittenHeader FormatError) (new : List ℕ)
    → WrittenBack (without_filters h) os ls r new → WrittenBack h os ls r new
filters_unread h os ls r new back = λ file pos bytes parsed plain room.
    back file pos bytes (parsed ∙ ap Ok (sym (read_plain h file pos os ls parsed plain))) plain room

pub is_written_back : (h : FractalHeapHeader) (os ls : ℕ) (old new : List ℕ) (r : Result WrittenHeader FormatError)
    → r ≡ header_written h os ls (length old) → length new ≡ length old
    → OnOk r (new ≡ put old 0 (header_spelled h os ls)) → WrittenBack h os ls r new
is_written_back h os ls old new r e l w = λ s p bytes parsed plain room.
    let widths = read-widths h s p os ls parsed in
    let there = read-spelled h s p os ls bytes plain parsed in
    let whole : List ℕ = header_spelled h os ls in
    let n : length whole ≡ header_length os ls = length-header_spelled h os ls in
    let a : Accepted h os ls (length old) =
    record { offsets = widths.0; lengths = widths.1; plain = plain; fits = there.0; room = omega (arith, l, room) } in
    let accepted_now : r ≡ Ok (record { length = header_length os ls; checksum = hashlittle (unsummed h os ls) }) =
    e ∙ rw (acceptable h os ls (length old) a) refl in
    let put_there : new ≡ put old 0 whole = (rw accepted_now at w) in
    let front : take (header_length os ls) new ≡ whole =
    ap (take (header_length os ls)) (put_there ∙ put_front old whole) ∙ take_at whole _ (header_length os ls) n in
    let file : take (header_length os ls) (drop p s) ≡ whole =
    ap (take (header_length os ls)) there.1 ∙ take_at whole _ (header_length os ls) n in
    (rw accepted_now refl, front ∙ sym file)

-- a header is that of its numbers, but for its filters
pub header_of-numbers : (h : FractalHeapHeader) (ns : List ℕ) → ns ≡ parsed_numbers h → header_of ns ≡ without_filters h
header_of-numbers h ns e = ap header_of e
