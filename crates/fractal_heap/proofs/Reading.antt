-- What is read is spelled, each byte of it.
use Rattle.std.proofs.Common.{◌≡◌, refl, sym, ap, ap₂, subst, ◌∙◌, ℕ, zero, suc, ◌+◌, ◌-◌, ◌*◌, ◌^◌, ◌%◌, ◌/◌, ◌<◌, ◌≤◌}
use Rattle.std.proofs.Common.{List, [], ◌∷◌, ◌++◌}
use Rattle.std.proofs.Common.{length, take, drop, true, append_assoc, take_at, length-append, length-drop, drop-drop}
use Rattle.std.proofs.Common.{drop-cons, length-take-le, length-take, get_or-drop, inl, inr, arith}
use Rattle.std.proofs.lemmas.Bool.{cases_lt}
use Rattle.std.proofs.lemmas.List.{get_or-take, get_or_past, take-append-drop}
use Rattle.std.proofs.lemmas.Grind.{common_steps}
use Rattle.std.proofs.lemmas.Bool.Decides.{nat_tests}
use Rattle.std.proofs.lemmas.Slice.Eq.{bytes_eq-Decides}
use Rattle.std.specs.Prelude.{slice_index, bytes_eq, nat_le, ◌==◌, Bool, false, Result, Ok, Err}
use Rattle.refusals.specs.Steps.{◌>>=◌, required}
use Rattle.refusals.specs.declared.FormatError.TheVariants.{InvalidFractalHeapSignature, InvalidFractalHeapVersion}
use Rattle.checksum.specs.Lookup3.{hashlittle}
use Rattle.fields.specs.Signatures.{header_signature}
use Rattle.fractal_heap.specs.Frame.{start_checked, sum_checked}
use Rattle.refusals.specs.declared.FormatError.{FormatError}
use Rattle.fields.specs.LittleEndian.{le, value, le_at}
use Rattle.fields.specs.Widths.{legal}
use Rattle.fields.specs.Fields.{len_ensured}
use Rattle.fields.proofs.LittleEndian.{length-le, value-lt}
use Rattle.fractal_heap.specs.Header.{fields_at, header_at, header_numbers, nothing_read, parsed_numbers}
use Rattle.fractal_heap.specs.Header.{without_filters}
use Rattle.fractal_heap.specs.ReadLaws.{FiltersFit}
use Rattle.fractal_heap.specs.SpellingLaws.{ReadIsSpelled}
use Rattle.fractal_heap.specs.HeaderReader.{offset_field, length_field}
use Rattle.fractal_heap.specs.Groups.{front_fields, object_fields, table_fields, root_fields, filters_at}
use Rattle.fractal_heap.specs.Spelling.{spelled, AllFit, field_widths, unsummed, header_spelled}
use Rattle.fractal_heap.specs.declared.header.FractalHeapHeader.{FractalHeapHeader}
use Rattle.fractal_heap.proofs.Holding.{span, Held, length-spelled}
use Rattle.fractal_heap.proofs.Spelling.{paired}

-- ---- numbers that stand in a file, as bytes

abbrev pub IsBytes : (bs : List ℕ) → Type 0
IsBytes bs = (j : ℕ) → slice_index bs j < 256

le-value : (w : ℕ) (bs : List ℕ) → IsBytes bs → length bs ≡ w → le w (value bs) ≡ bs
unfolding le value
le-value zero [] h e = refl
le-value (suc w) [] h e = absurd (omega (arith, e))
le-value zero (b ∷ bs) h e = absurd (omega (arith, e))
le-value (suc w) (b ∷ bs) h e =
    let low : (b + value bs * 256) % 256 ≡ b = omega (arith, h 0) in
    let high : (b + value bs * 256) / 256 ≡ value bs = omega (arith, h 0) in
    rw (low, high, le-value w bs (λ j. h (suc j)) (omega (arith, e))) refl

part-bytes : (s : List ℕ) (p w : ℕ) → IsBytes s → IsBytes (take w (drop p s))
part-bytes s p w h j =
    elim (cases_lt j w) [
      | inl lt ↦ rw (get_or-take w (drop p s) j 0 lt, get_or-drop p s j 0) (h (p + j))
      | inr le ↦ rw (get_or_past (take w (drop p s)) j 0 (omega (arith, length-take w (drop p s)))) (omega arith)
    ]

pub front-bytes : (s : List ℕ) (p w x : ℕ) → IsBytes s → p + w ≤ length s → le_at s p w ≡ x
    → le w x ≡ take w (drop p s)
unfolding le_at
front-bytes s p w x h l e =
    ap (le w) (sym e)
    ∙ le-value w (take w (drop p s)) (part-bytes s p w h) (length-take-le w (drop p s) (rw length-drop (omega arith)))

fits-width : (s : List ℕ) (p w x : ℕ) → IsBytes s → p + w ≤ length s → le_at s p w ≡ x → x < 2 ^ (8 * w)
unfolding le_at
fits-width s p w x h l e =
    let n : length (take w (drop p s)) ≡ w = length-take-le w (drop p s) (rw length-drop (omega arith)) in
    let bound = value-lt (take w (drop p s)) (part-bytes s p w h) in
    subst (λ (y : ℕ). y < 2 ^ (8 * w)) e (subst (λ (m : ℕ). value (take w (drop p s)) < 2 ^ (8 * m)) n bound)

pub held-spelled : (ws ns : List ℕ) (s : List ℕ) (p : ℕ) → IsBytes s → p ≤ length s → Held s p ws ns
    → AllFit ws ns × (drop p s ≡ spelled ws ns ++ drop (p + span ws) s)
unfolding Held spelled span AllFit
held-spelled [] ns s p h l H = (tt, ap (λ (q : ℕ). drop q s) (omega arith))
held-spelled (w ∷ ws) [] s p h l H = absurd H
held-spelled (w ∷ ws) (n ∷ ns) s p h l H =
    let r = held-spelled ws ns s (p + w) h H.0 H.2 in
    let e : le w n ≡ take w (drop p s) = front-bytes s p w n h H.0 H.1 in
    let c : p + w + span ws ≡ p + (w + span ws) = omega arith in
    let whole : drop p s ≡ take w (drop p s) ++ drop (p + w) s =
    sym (take-append-drop w (drop p s)) ∙ ap (λ (ys : List ℕ). take w (drop p s) ++ ys) (drop-drop w p s) in (
      (fits-width s p w n h H.0 H.1, r.0),
      whole
          ∙ ap₂ (λ (xs ys : List ℕ). xs ++ ys) (sym e) (r.1 ∙ ap (λ (q : ℕ). spelled ws ns ++ drop q s) c)
          ∙ sym (append_assoc (le w n) (spelled ws ns) (drop (p + (w + span ws)) s)),
    )

-- ---- the fields that are read stand there

-- numbers of these widths stand from p on, and end at q
record Gave (s : List ℕ) (p q : ℕ) (ws ns : List ℕ) : Type 0 where
  held : Held s p ws ns
  end : q ≡ p + span ws

held-join : (ws vs ns ms : List ℕ) (s : List ℕ) (p : ℕ) → Held s p ws ns → Held s (p + span ws) vs ms
    → Held s p (ws ++ vs) (ns ++ ms)
unfolding Held span
held-join [] vs ns ms s p a b =
    let e : p + 0 ≡ p = omega arith in
    rw a (subst (λ (q : ℕ). Held s q vs ms) e b)
held-join (w ∷ ws) vs [] ms s p a b = absurd a
held-join (w ∷ ws) vs (n ∷ ns) ms s p a b =
    let e : p + (w + span ws) ≡ p + w + span ws = omega arith in
    (a.0, a.1, held-join ws vs ns ms s (p + w) a.2 (subst (λ (q : ℕ). Held s q vs ms) e b))

span-append : (ws vs : List ℕ) → span (ws ++ vs) ≡ span ws + span vs
unfolding span
span-append [] vs = omega arith
span-append (w ∷ ws) vs = omega (arith, span-append ws vs)

-- one group behind another
gave-append : (s : List ℕ) (p q r : ℕ) (ws ns vs ms : List ℕ) → Gave s p q ws ns → Gave s q r vs ms
    → Gave s p r (ws ++ vs) (ns ++ ms)
gave-append s p q r ws ns vs ms a b =
    record {
      held = held-join ws vs ns ms s p a.held (subst (λ (x : ℕ). Held s x vs ms) a.end b.held);
      end = omega (arith, a.end, b.end, span-append ws vs);
    }

pub bind_ok : {T U : Type 0} (r : Result T FormatError) (f : T → Result U FormatError) (y : U) → (r >>= f) ≡ Ok y
    → (x : T) × (r ≡ Ok x) × (f x ≡ Ok y)
bind_ok (Ok x) f y e = (x, refl, e)
bind_ok (Err d) f y e = absurd cc

-- a step that is taken up, and then goes on
bind_two : {T U V : Type 0} (r : Result T FormatError) (f : T → Result U FormatError) (g : U → Result V FormatError)
    (y : V) → (r >>= f >>= g) ≡ Ok y → (x : T) × (r ≡ Ok x) × ((f x >>= g) ≡ Ok y)
bind_two (Ok x) f g y e = (x, refl, e)
bind_two (Err d) f g y e = absurd cc

abbrev done : {T : Type 0} (x : T) → Result T FormatError
done x = Ok x

pub ok_is : {T : Type 0} (x y : T) → done x ≡ done y → x ≡ y
ok_is x y e = cc

pub required_ok : (b : Bool) (e : FormatError) (x : Unit {0}) → required b e ≡ Ok x → b ≡ true
required_ok true e x r = refl
required_ok false e x r = absurd cc

-- what a step tells that gave a number: its width is one, it is there, and the next field begins behind it
record Found (s : List ℕ) (p w x q : ℕ) : Type 0 where
  width : legal w ≡ true
  there : p + w ≤ length s
  number : le_at s p w ≡ x
  next : q ≡ p + w

offset-found : (s : List ℕ) (p os x q : ℕ) → offset_field s p os ≡ Ok (x, q) → Found s p os x q
offset-found s p os x q e = grind (arith, common_steps)

length-found : (s : List ℕ) (p ls x q : ℕ) → length_field s p ls ≡ Ok (x, q) → Found s p ls x q
length-found s p ls x q e = grind (arith, common_steps)

ensured : (s : List ℕ) (p n : ℕ) → len_ensured s p n ≡ Ok tt → p + n ≤ length s
ensured s p n e = grind (arith, nat_tests, required_ok (nat_le (p + n) (length s)) _ tt e)

-- the fields of the group stand where its tests have them
objects-held : (s : List ℕ) (p a q os ls x n : ℕ) → p + ls ≤ length s → Found s (p + ls) os x a
    → a + (4 * ls + os) ≤ length s → Found s (a + ls + os + ls + ls + ls) ls n q
    → Gave s p q (ls ∷ os ∷ ls ∷ os ∷ ls ∷ ls ∷ ls ∷ ls ∷ [])
    (le_at s p ls ∷ x ∷ le_at s a ls ∷ le_at s (a + ls) os ∷ le_at s (a + ls + os) ls ∷ le_at s (a + ls + os + ls) ls
    ∷ le_at s (a + ls + os + ls + ls) ls ∷ n ∷ [])
unfolding Held span
objects-held s p a q os ls x n first tree five count = grind arith

-- the numbers of `count` fields, and their widths, of which `before` stand before them
abbrev numbers_of : (before count : ℕ) (h : FractalHeapHeader) → List ℕ
numbers_of before count h = take count (drop before (header_numbers h))

abbrev widths_of : (before count os ls : ℕ) → List ℕ
widths_of before count os ls = take count (drop before (field_widths os ls))

-- the three that tell of filters
abbrev filter_numbers : (h : FractalHeapHeader) → List ℕ
filter_numbers h = drop 23 (parsed_numbers h)

-- a group that is read behind `before` fields: they stay, its own are read, no others stand before their end
record Group (before count : ℕ) (s : List ℕ) (p q os ls : ℕ) (h g : FractalHeapHeader) : Type 0 where
  kept : numbers_of 0 before g ≡ numbers_of 0 before h
  filters : filter_numbers g ≡ filter_numbers h
  gave : Gave s p q (widths_of before count os ls) (numbers_of before count g)

front-group : (s : List ℕ) (p q os ls : ℕ) (h g : FractalHeapHeader) → front_fields h s p ≡ Ok (g, q)
    → Group 0 4 s p q os ls h g
unfolding Held span
front-group s p q os ls h g e = grind (arith, common_steps)

objects-group : (s : List ℕ) (p q os ls : ℕ) (h g : FractalHeapHeader) → object_fields h s p os ls ≡ Ok (g, q)
    → Group 4 8 s p q os ls h g
objects-group s p q os ls h g e =
    let a = bind_ok (len_ensured s p ls) _ (g, q) e in
    let b = bind_two (offset_field s (p + ls) os) _ _ (g, q) a.2 in
    let c = bind_ok (len_ensured s b.0.1 (4 * ls + os)) _ (g, q) b.2 in
    let d = bind_ok (length_field s (b.0.1 + ls + os + ls + ls + ls) ls) _ (g, q) c.2 in
    let tree = offset-found s (p + ls) os b.0.0 b.0.1 b.1 in
    let count = length-found s (b.0.1 + ls + os + ls + ls + ls) ls d.0.0 d.0.1 d.1 in
    let five = ensured s b.0.1 (4 * ls + os) c.1 in
    subst (λ (y : FractalHeapHeader × ℕ). Group 4 8 s p y.1 os ls h y.0) (ok_is _ (g, q) d.2)
    (record {
      kept = refl;
      filters = refl;
      gave = objects-held s p b.0.1 d.0.1 os ls b.0.0 d.0.0 (ensured s p ls a.1) tree five count;
    })

-- a group that was read has widths that are such
object-widths : (s : List ℕ) (p q os ls : ℕ) (h g : FractalHeapHeader) → object_fields h s p os ls ≡ Ok (g, q)
    → (legal os ≡ true) × (legal ls ≡ true)
object-widths s p q os ls h g e =
    let a = bind_ok (len_ensured s p ls) _ (g, q) e in
    let b = bind_two (offset_field s (p + ls) os) _ _ (g, q) a.2 in
    let c = bind_ok (len_ensured s b.0.1 (4 * ls + os)) _ (g, q) b.2 in
    let d = bind_ok (length_field s (b.0.1 + ls + os + ls + ls + ls) ls) _ (g, q) c.2 in (
      (offset-found s (p + ls) os b.0.0 b.0.1 b.1).width,
      (length-found s (b.0.1 + ls + os + ls + ls + ls) ls d.0.0 d.0.1 d.1).width,
    )

table-group : (s : List ℕ) (p q os ls : ℕ) (h g : FractalHeapHeader) → table_fields h s p ls ≡ Ok (g, q)
    → Group 12 8 s p q os ls h g
unfolding Held span
table-group s p q os ls h g e = grind (arith, common_steps)

root-group : (s : List ℕ) (p q os ls : ℕ) (h g : FractalHeapHeader) → root_fields h s p os ≡ Ok (g, q)
    → Group 20 3 s p q os ls h g
unfolding Held span
root-group s p q os ls h g e = grind (arith, common_steps)

-- the fields of every header, all of which stand there, and nothing is read of filters
record Fields (s : List ℕ) (p q os ls : ℕ) (g : FractalHeapHeader) : Type 0 where
  gave : Gave s p q (field_widths os ls) (header_numbers g)
  filters : filter_numbers g ≡ 0 ∷ 0 ∷ 0 ∷ []

-- the fields before a group stand there still
still : (before count : ℕ) (s : List ℕ) (p m q os ls : ℕ) (h g : FractalHeapHeader) → Group before count s m q os ls h g
    → Gave s p m (widths_of 0 before os ls) (numbers_of 0 before h)
    → Gave s p q (widths_of 0 before os ls ++ widths_of before count os ls)
    (numbers_of 0 before g ++ numbers_of before count g)
still before count s p m q os ls h g group gave =
    gave-append s p m q (widths_of 0 before os ls) (numbers_of 0 before g) (widths_of before count os ls)
    (numbers_of before count g)
    (subst (λ (ns : List ℕ). Gave s p m (widths_of 0 before os ls) ns) (sym group.kept) gave) group.gave

fields-gave : (s : List ℕ) (p q os ls : ℕ) (g : FractalHeapHeader) → fields_at s p os ls ≡ Ok (g, q)
    → Fields s p q os ls g
fields-gave s p q os ls g e =
    let a = bind_ok (front_fields nothing_read s p) _ (g, q) e in
    let b = bind_ok (object_fields a.0.0 s a.0.1 os ls) _ (g, q) a.2 in
    let c = bind_ok (table_fields b.0.0 s b.0.1 ls) _ (g, q) b.2 in
    let front = front-group s p a.0.1 os ls nothing_read a.0.0 a.1 in
    let objects = objects-group s a.0.1 b.0.1 os ls a.0.0 b.0.0 b.1 in
    let table = table-group s b.0.1 c.0.1 os ls b.0.0 c.0.0 c.1 in
    let root = root-group s c.0.1 q os ls c.0.0 g c.2 in
    record {
      gave =
          still 20 3 s p c.0.1 q os ls c.0.0 g root
          (still 12 8 s p b.0.1 c.0.1 os ls b.0.0 c.0.0 table
          (still 4 8 s p a.0.1 b.0.1 os ls a.0.0 b.0.0 objects front.gave));
      filters = root.filters ∙ table.filters ∙ objects.filters ∙ front.filters;
    }

-- ---- the whole header

pub record Started (s : List ℕ) (p next : ℕ) : Type 0 where
  pub first : next ≡ p + 5
  pub room : p + 5 ≤ length s
  pub front : drop p s ≡ header_signature ++ 0 ∷ drop (p + 5) s

start-gave : (s : List ℕ) (p next : ℕ) → start_checked s p ≡ Ok next → Started s p next
start-gave s p next e =
    let a = bind_ok (len_ensured s p 5) _ next e in
    let begins = bytes_eq (take 4 (drop p s)) header_signature in
    let version_is = slice_index s (p + 4) in
    let b = bind_ok (required begins InvalidFractalHeapSignature) _ next a.2 in
    let c = bind_ok (required (version_is == 0) (InvalidFractalHeapVersion version_is)) _ next b.2 in
    let room : p + 5 ≤ length s = grind (arith, nat_tests, required_ok (nat_le (p + 5) (length s)) _ a.0 a.1) in
    let signature : take 4 (drop p s) ≡ header_signature =
    (bytes_eq-Decides (take 4 (drop p s)) header_signature).0 (required_ok _ _ b.0 b.1) in
    let version : slice_index s (p + 4) ≡ 0 = grind (arith, nat_tests, required_ok _ _ c.0 c.1) in
    let next_place : suc (p + 4) ≡ p + 5 = omega arith in
    let behind : drop 4 (drop p s) ≡ 0 ∷ drop (p + 5) s =
    drop-drop 4 p s
    ∙ drop-cons s (p + 4) 0 (omega (arith, room))
    ∙ ap₂ (λ (x k : ℕ). x ∷ drop k s) version next_place in
    record {
      first = sym (ok_is (p + 5) next c.2);
      room = room;
      front = sym (take-append-drop 4 (drop p s)) ∙ ap₂ (λ (xs ys : List ℕ). xs ++ ys) signature behind;
    }

sum-gave : (s : List ℕ) (p q : ℕ) → sum_checked s p q ≡ Ok tt
    → (q + 4 ≤ length s) × (le_at s q 4 ≡ hashlittle (take (q - p) (drop p s)))
sum-gave s p q e =
    let a = bind_ok (len_ensured s q 4) _ tt e in
    let there = required_ok (nat_le (q + 4) (length s)) _ a.0 a.1 in
    let same = required_ok _ _ tt a.2 in
    (grind (arith, nat_tests, there), grind (arith, nat_tests, same))

module _ (h : FractalHeapHeader) (s : List ℕ) (p os ls : ℕ) (bytes : IsBytes s)
    (plain : h.io_filter_encoded_length ≡ 0) where
  abbrev fields : List ℕ
  fields = spelled (field_widths os ls) (header_numbers h)

  abbrev unsummed_here : List ℕ
  unsummed_here = unsummed h os ls

  -- from where the fields end, and the checksum stands
  spelled-here : (q : ℕ) → Started s p (p + 5) → Gave s (p + 5) q (field_widths os ls) (header_numbers h)
      → sum_checked s p q ≡ Ok tt
      → AllFit (field_widths os ls) (header_numbers h)
      × (drop p s ≡ header_spelled h os ls ++ drop (p + length (header_spelled h os ls)) s)
  spelled-here q start gave right =
      let held = held-spelled (field_widths os ls) (header_numbers h) s (p + 5) bytes start.room gave.held in
      let sum = sum-gave s p q right in
      let here : drop (p + 5) s ≡ fields ++ drop q s =
      held.1 ∙ ap (λ (k : ℕ). fields ++ drop k s) (sym gave.end) in
      let whole : drop p s ≡ unsummed_here ++ drop q s =
      start.front ∙ ap (λ (ys : List ℕ). header_signature ++ 0 ∷ ys) here in
      let n : length fields ≡ span (field_widths os ls) =
      length-spelled (field_widths os ls) (header_numbers h) (paired h os ls) in
      let long : length unsummed_here ≡ q - p = omega (arith, n, gave.end) in
      let covered : take (q - p) (drop p s) ≡ unsummed_here =
      ap (take (q - p)) whole ∙ take_at unsummed_here (drop q s) (q - p) long in
      let stored : le_at s q 4 ≡ hashlittle unsummed_here = sum.1 ∙ ap hashlittle covered in
      let sealed : le 4 (hashlittle unsummed_here) ≡ take 4 (drop q s) =
      front-bytes s q 4 (hashlittle unsummed_here) bytes sum.0 stored in
      let last : drop q s ≡ le 4 (hashlittle unsummed_here) ++ drop (q + 4) s =
      sym (take-append-drop 4 (drop q s)) ∙ ap₂ (λ (xs ys : List ℕ). xs ++ ys) (sym sealed) (drop-drop 4 q s) in
      let end : q + 4 ≡ p + length (header_spelled h os ls) =
      omega (
        arith,
        long,
        gave.end,
        length-append unsummed_here (le 4 (hashlittle unsummed_here)),
        length-le 4 (hashlittle unsummed_here),
      ) in (
        held.0,
        whole
            ∙ ap (λ (ys : List ℕ). unsummed_here ++ ys) last
            ∙ sym (append_assoc unsummed_here (le 4 (hashlittle unsummed_here)) (drop (q + 4) s))
            ∙ ap (λ (k : ℕ). header_spelled h os ls ++ drop k s) end,
      )

-- ---- the filters

-- where there are none, nothing is read of them
none-at : (h : FractalHeapHeader) (s : List ℕ) (p ls : ℕ) (g : FractalHeapHeader) (q : ℕ)
    → g.io_filter_encoded_length ≡ 0 → filters_at h s p ls ≡ Ok (g, q) → (h ≡ g) × (p ≡ q)
none-at h s p ls g q none e = grind (arith, nat_tests, common_steps)

-- what a header is read from: its start, its fields, its filters, its sum
record Parts (h : FractalHeapHeader) (s : List ℕ) (p os ls : ℕ) : Type 0 where
  next : ℕ
  start : start_checked s p ≡ Ok next
  plain : FractalHeapHeader
  end : ℕ
  fields : fields_at s next os ls ≡ Ok (plain, end)
  place : ℕ
  filtered : filters_at plain s end ls ≡ Ok (h, place)
  sum : sum_checked s p place ≡ Ok tt

parts : (h : FractalHeapHeader) (s : List ℕ) (p os ls : ℕ) → header_at s p os ls ≡ Ok h → Parts h s p os ls
parts h s p os ls e =
    let a = bind_ok (start_checked s p) _ h e in
    let b = bind_ok (fields_at s a.0 os ls) _ h a.2 in
    let c = bind_ok (filters_at b.0.0 s b.0.1 ls) _ h b.2 in
    let d = bind_ok (sum_checked s p c.0.1) _ h c.2 in
    record {
      next = a.0;
      start = a.1;
      plain = b.0.0;
      end = b.0.1;
      fields = b.1;
      place = c.0.1;
      filtered = subst (λ (y : FractalHeapHeader). filters_at b.0.0 s b.0.1 ls ≡ Ok (y, c.0.1)) (ok_is c.0.0 h d.2) c.1;
      sum = d.1;
    }

-- a header without filters: its fields are all that is read
record Plain (h : FractalHeapHeader) (s : List ℕ) (p os ls : ℕ) : Type 0 where
  next : ℕ
  end : ℕ
  start : start_checked s p ≡ Ok next
  fields : fields_at s next os ls ≡ Ok (h, end)
  sum : sum_checked s p end ≡ Ok tt

plain-parts : (h : FractalHeapHeader) (s : List ℕ) (p os ls : ℕ) → header_at s p os ls ≡ Ok h
    → h.io_filter_encoded_length ≡ 0 → Plain h s p os ls
plain-parts h s p os ls e none =
    let P = parts h s p os ls e in
    let same = none-at P.plain s P.end ls h P.place none P.filtered in
    record {
      next = P.next;
      end = P.end;
      start = P.start;
      fields = subst (λ (y : FractalHeapHeader). fields_at s P.next os ls ≡ Ok (y, P.end)) same.0 P.fields;
      sum = subst (λ (q : ℕ). sum_checked s p q ≡ Ok tt) (sym same.1) P.sum;
    }

-- with the three at 0 it is itself
three-none : (h : FractalHeapHeader) → filter_numbers h ≡ 0 ∷ 0 ∷ 0 ∷ [] → without_filters h ≡ h
three-none h e = grind arith

-- a header without filters that is read has the three at 0
pub read_plain : (h : FractalHeapHeader) (s : List ℕ) (p os ls : ℕ) → header_at s p os ls ≡ Ok h
    → h.io_filter_encoded_length ≡ 0 → without_filters h ≡ h
read_plain h s p os ls e none =
    let P = plain-parts h s p os ls e none in
    three-none h (fields-gave s P.next P.end os ls h P.fields).filters

-- where a header has filters, their information begins behind the filtered root's size and the mask
information-at : (h : FractalHeapHeader) (s : List ℕ) (p ls : ℕ) (g : FractalHeapHeader) (q : ℕ)
    → 0 < g.io_filter_encoded_length → filters_at h s p ls ≡ Ok (g, q)
    → g.io_filter_information_position ≡ p + ls + 4
information-at h s p ls g q some e = grind (arith, nat_tests, common_steps)

pub filters_fit : (h : FractalHeapHeader) (s : List ℕ) (p os ls : ℕ) → header_at s p os ls ≡ Ok h → FiltersFit p os ls h
unfolding span
filters_fit h s p os ls e =
    let P = parts h s p os ls e in
    let start = start-gave s p P.next P.start in
    let fields = fields-gave s P.next P.end os ls P.plain P.fields in
    record {
      unfiltered = read_plain h s p os ls e;
      filtered = λ some.
          let at = information-at P.plain s P.end ls h P.place some P.filtered in
          omega (arith, at, start.first, fields.gave.end);
    }

pub read-spelled : ReadIsSpelled
read-spelled h s p os ls bytes plain e =
    let P = plain-parts h s p os ls e plain in
    let start = start-gave s p P.next P.start in
    let gave : Gave s (p + 5) P.end (field_widths os ls) (header_numbers h) =
    subst (λ (x : ℕ). Gave s x P.end (field_widths os ls) (header_numbers h)) start.first
    (fields-gave s P.next P.end os ls h P.fields).gave in
    let begun : Started s p (p + 5) = record { first = refl; room = start.room; front = start.front } in
    spelled-here h s p os ls bytes plain P.end begun gave P.sum

pub read-widths : (h : FractalHeapHeader) (s : List ℕ) (p os ls : ℕ) → header_at s p os ls ≡ Ok h
    → (legal os ≡ true) × (legal ls ≡ true)
read-widths h s p os ls e =
    let P = parts h s p os ls e in
    let c = bind_ok (front_fields nothing_read s P.next) _ (P.plain, P.end) P.fields in
    let d = bind_ok (object_fields c.0.0 s c.0.1 os ls) _ (P.plain, P.end) c.2 in
    object-widths s c.0.1 d.0.1 os ls c.0.0 d.0.0 d.1
