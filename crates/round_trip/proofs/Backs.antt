-- Laws of the count of what comes back, object by object.
use Rattle.std.proofs.Common.{◌≡◌, ℕ, ◌+◌, ◌-◌, ◌<◌, ◌≤◌, min, Bool, true, false, List, [], ◌∷◌, length, take, drop}
use Rattle.std.proofs.Common.{slice_index, refl, sym, ap, ◌∙◌, arith, add-one, drop_of_length-le, length-drop}
use Rattle.std.proofs.Common.{drop-cons, drop-drop}
use Rattle.std.proofs.Math.Decide.{dec_le}
use Rattle.std.proofs.Math.Logic.{dite}
use Rattle.numbers.specs.Sums.{bit}
use Rattle.std.proofs.lemmas.List.{take_min, drop_min}
use Rattle.fractal_heap.specs.declared.header.FractalHeapHeader.{FractalHeapHeader}
use Rattle.round_trip.specs.Backs.{comes_back, returned_count}

-- no more than one comes back at a time
bit_most : (b : Bool) → bit b ≤ 1
bit_most true = omega arith
bit_most false = omega arith

-- before the i-th object, whose bytes begin at from: back are counted, and those left give the rest
pub record Counting (h : FractalHeapHeader) (s : List ℕ) (w : ℕ) (xs os js : List ℕ) (back from i : ℕ) : Type 0 where
  pub few : back ≤ i
  pub here : from ≤ length js
  pub rest : back + returned_count h s w (drop i xs) (drop i os) (drop from js) ≡ returned_count h s w xs os js

module _ (h : FractalHeapHeader) (s : List ℕ) (w : ℕ) (xs os js : List ℕ) where
  -- whether the i-th object comes back, whose bytes are those from f to e
  abbrev this : ℕ → ℕ → ℕ → ℕ
  this i f e = bit (comes_back h s w (slice_index os i) (slice_index xs i) (take (e - f) (drop f js)))

  -- how many of those from the i-th on
  abbrev left : ℕ → ℕ → ℕ
  left i f = returned_count h s w (drop i xs) (drop i os) (drop f js)

  none-back : (ys ks : List ℕ) → returned_count h s w ys [] ks ≡ 0
  unfolding returned_count
  none-back [] ks = refl
  none-back (y ∷ ys) ks = refl

  -- from one object to the next
  back-next : (i f e : ℕ) → i < length xs → i < length os → f ≤ length js
      → e ≡ min (f + slice_index xs i) (length js) → left i f ≡ this i f e + left (i + 1) e
  unfolding returned_count
  back-next i f e l m k d =
      let x : ℕ = slice_index xs i in
      let n : e - f ≡ min x (length (drop f js)) = rw (length-drop f js) (omega arith) in
      let taken : take (e - f) (drop f js) ≡ take x (drop f js) = rw n (take_min x (drop f js)) in
      let dropped : drop e js ≡ drop x (drop f js) = ap (λ (q : ℕ). drop q js) d ∙ drop_min (f + x) js
      ∙ sym (drop-drop x f js) in
      rw (taken, dropped, drop-cons xs i 0 l, drop-cons os i 0 m, add-one i)

  back_end : (i f : ℕ) → min (length xs) (length os) ≤ i → left i f ≡ 0
  unfolding returned_count
  back_end i f l =
      dite (dec_le (length xs) i)
      (λ k. rw (drop_of_length-le xs k))
      (λ k. rw (drop_of_length-le os {i = i} (omega arith)) (none-back (drop i xs) (drop f js)))

-- ---- the loop over the objects

module _ {h : FractalHeapHeader} {s : List ℕ} {w : ℕ} {xs os js : List ℕ} {back from i : ℕ}
    (I : Counting h s w xs os js back from i) where
  pub counting-end : min (length xs) (length os) ≤ i → back ≡ returned_count h s w xs os js
  counting-end l =
      let none = back_end h s w xs os js i from l in
      let all = I.rest in
      omega arith

  module _ (l : i < min (length xs) (length os)) {e n : ℕ} (d : e ≡ min (from + slice_index xs i) (length js))
      (q : n ≡ this h s w xs os js i from e) where
    pub one_more : back + n ≤ i + 1
    one_more =
        let a = I.few in
        let m : this h s w xs os js i from e ≤ 1 =
        bit_most (comes_back h s w (slice_index os i) (slice_index xs i) (take (e - from) (drop from js))) in
        omega arith

    pub counting-next : Counting h s w xs os js (back + n) e (i + 1)
    counting-next =
        let next = back-next h s w xs os js i from e (omega (arith, l)) (omega (arith, l)) I.here d in
        let all = I.rest in
        record { few = one_more; here = omega arith; rest = omega arith }
