-- By an ID that an object was given, early or at the end, the reader finds the object.
use Rattle.std.proofs.Common.{◌≡◌, ℕ, ◌+◌, ◌<◌, ◌≤◌, true, List, ◌++◌, length, take, drop, slice_index, Result, Ok}
use Rattle.std.proofs.Common.{Err, OnOk}
use Rattle.std.proofs.Common.{refl, ap, ap₂, ◌∙◌}
use Rattle.std.proofs.Common.{arith, length-drop, length-take-le, take_all}
use Rattle.numbers.specs.Sums.{sum}
use Rattle.numbers.proofs.Sums.{sum-take-suc, sum-take-le}
use Rattle.plan.specs.declared.ManagedPlan.{ManagedPlan}
use Rattle.refusals.specs.declared.FormatError.{FormatError}
use Rattle.fields.specs.declared.place.Place.{Place}
use Rattle.fractal_heap.specs.declared.header.FractalHeapHeader.{FractalHeapHeader}
use Rattle.checked_reading.specs.Blocks.{has_checksum}
use Rattle.fractal_heap.specs.Read.{managed_unchecked, managed_checked}
use Rattle.heap_kept.specs.HeapKept.{Call, ObjectIsManaged, ObjectComesBack, object_id, part_of}
use Rattle.heap_kept.proofs.FromRoot.{tests}
use Rattle.heap_kept.proofs.Theorem.{heap-kept, early-id-stays}
use Rattle.heap_kept.proofs.Checked.{checked-kept}
use Rattle.heap_kept.specs.Kept.{HoldsHeap, IsIdOf, IsPlaceOf, IsFetched, fetched}
use Rattle.std.proofs.lemmas.Grind.{common_steps}

module _ {h : FractalHeapHeader} {file : List ℕ} {w : ℕ} {id : List ℕ} {c : Call} {p : ManagedPlan} {k i : ℕ}
    (H : HoldsHeap h file w c p) (I : IsIdOf id c k i) where
  abbrev wc : ℕ
  wc = c.site.offset_size

  abbrev size : ℕ
  size = slice_index c.sizes i

  among : i < length c.sizes
  among = omega (arith, I.index, I.front)

  back : ObjectIsManaged h c i → ObjectComesBack file h c i
  back m = heap-kept.comes_back c p H.writer_accepts file H.holds_region h H.is_header i among I.not_empty m

  -- it is the ID in the whole run
  id-now : id ≡ object_id wc c.sizes i
  id-now = I.id_given ∙ early-id-stays H.writer_accepts k i I.index among

  -- the object has all its bytes
  pub size-is : length (part_of c.sizes c.objects i) ≡ size
  size-is =
      let s : ℕ = sum (take i c.sizes) in
      let a = sum-take-suc c.sizes i among in
      let b = sum-take-le c.sizes (i + 1) (i + length c.sizes) (omega (arith, among)) in
      let d = ap sum (take_all (i + length c.sizes) c.sizes (omega arith)) in
      let e = (tests H.writer_accepts).bytes in
      let g = length-drop s c.objects in
      length-take-le size (drop s c.objects) (omega arith)

  place : ObjectIsManaged h c i → IsPlaceOf (managed_unchecked h file id w) file (part_of c.sizes c.objects i)
  place m =
      let B = back m in
      record {
        position = B.position;
        place_found = (λ j. managed_unchecked h file (id-now j) (H.offset_size_is j)) ∙ rw size-is B.reader_accepts;
        bytes_there = ap (λ (n : ℕ). take n (drop B.position file)) size-is ∙ B.bytes_there;
      }

  -- what the reader answers by this ID
  pub kept : {r : Result Place FormatError} → ObjectIsManaged h c i → r ≡ managed_unchecked h file id w
      → IsPlaceOf r file (part_of c.sizes c.objects i)
  kept m e = rw e (place m)

  -- and the checked reader, with the header's flag and the address that the heap was written with
  pub kept_checked : {r : Result Place FormatError} {a : ℕ} → ObjectIsManaged h c i → has_checksum h.flags ≡ true
      → a ≡ c.site.heap_header_address → r ≡ managed_checked h a file id w
      → IsPlaceOf r file (part_of c.sizes c.objects i)
  kept_checked m sums address e =
      let B = checked-kept c p H.writer_accepts file H.holds_region h H.is_header sums i among I.not_empty m in
      rw e
      (record {
        position = B.position;
        place_found = (λ j. managed_checked h (address j) file (id-now j) (H.offset_size_is j))
            ∙ rw size-is B.reader_accepts;
        bytes_there = ap (λ (n : ℕ). take n (drop B.position file)) size-is ∙ B.bytes_there;
      })

-- a place that is answered
module _ {q : Place} {file bytes : List ℕ} (P : IsPlaceOf (Ok q) file bytes) where
  pub number-is : q.length ≡ length bytes
  number-is = let e = P.place_found in grind arith

  pub bytes-are : (m : ℕ) → m ≡ q.length → take m (drop q.position file) ≡ bytes
  bytes-are m e =
      let u : q.position ≡ P.position = (let f = P.place_found in grind arith) in
      ap (λ (x : ℕ). take x (drop q.position file)) (e ∙ number-is)
      ∙ ap (λ (x : ℕ). take (length bytes) (drop x file)) u ∙ P.bytes_there

  -- where its bytes have room they are fetched
  pub fetched-from : {lent left : List ℕ} {r : Result ℕ FormatError} → length bytes ≤ length lent
      → r ≡ fetched (Ok q) (length lent)
      → OnOk r (left ≡ take q.length (drop q.position file) ++ drop q.length lent)
      → IsFetched r lent left bytes
  fetched-from {lent} {left} {r} room answer copied =
      let n = number-is in
      let all : r ≡ Ok q.length = answer ∙ grind (arith, common_steps) in
      record {
        length_answered = all ∙ ap (λ (x : ℕ). Ok x) n;
        bytes_copied = (rw all at copied)
            ∙ ap₂ (λ (y : List ℕ) (x : ℕ). y ++ drop x lent) (bytes-are q.length refl) n;
      }

-- a refusal is no place
pub no-place : {e : FormatError} {file bytes : List ℕ} → IsPlaceOf (Err e) file bytes → ⊥
no-place {e} {file} {bytes} P = let f = P.place_found in absurd cc
