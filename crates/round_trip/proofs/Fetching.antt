-- A heap of ours as the reader meets it in the file, and the IDs that its objects were given.
use Rattle.std.proofs.Common.{◌≡◌, ℕ, ◌<◌, ◌≤◌, List, ◌++◌, length, take, drop, slice_index, Result, Ok, Err, IfOk}
use Rattle.std.proofs.Common.{refl, sym, ap, ◌∙◌, arith, append_assoc, drop_at, take-append-drop}
use Rattle.refusals.specs.declared.FormatError.{FormatError}
use Rattle.table.specs.Table.{fixed}
use Rattle.fields.specs.LittleEndian.{put}
use Rattle.fields.proofs.LittleEndian.{put_front}
use Rattle.planner.specs.Steps.{plan_offsets, plan_starts}
use Rattle.plan.specs.declared.ManagedPlan.{ManagedPlan}
use Rattle.plan.specs.Answer.{planned_for, list_after}
use Rattle.plan.specs.Plans.{object_start}
use Rattle.plan.proofs.Kept.{front-parts-fit}
use Rattle.region_blocks.specs.declared.Site.{Site}
use Rattle.fractal_heap.specs.declared.header.FractalHeapHeader.{FractalHeapHeader}
use Rattle.ids.specs.Checks.{id_checked}
use Rattle.heap_kept.specs.HeapKept.{Call, HoldsRegion, ObjectIsManaged, object_id}
use Rattle.heap_kept.specs.Kept.{HoldsHeap, IsIdOf}
use Rattle.heap_kept.proofs.FromRoot.{planned}
use Rattle.heap_kept.proofs.Theorem.{early-id-holds}
use Rattle.round_trip.specs.InFile.{file_with, ListsHavePlan}
use Rattle.round_trip.specs.Early.{early_id}
use Rattle.round_trip.specs.Objects.{root_header}
use Rattle.round_trip.proofs.Back.{holds-there}
use Rattle.round_trip.proofs.WholeWay.{Accepted, call_in, accepted, header_is, all-managed}

-- a front part, put over the whole
front-again : (all front later old : List ℕ) → all ≡ front ++ later → put (put old 0 all) 0 front ≡ put old 0 all
front-again all front later old e =
    put_front (put old 0 all) front
    ∙ ap (λ (l : List ℕ). front ++ drop (length front) l) (put_front old all
    ∙ ap (λ (l : List ℕ). l ++ drop (length all) old) e ∙ append_assoc front later (drop (length all) old))
    ∙ ap (λ (l : List ℕ). front ++ l) (drop_at front (later ++ drop (length all) old) (length front) refl)
    ∙ sym (append_assoc front later (drop (length all) old))
    ∙ ap (λ (l : List ℕ). l ++ drop (length all) old) (sym e)
    ∙ sym (put_front old all)

-- the i-th object, not an empty one, when there are the first k alone, with as many places in the lists as os and bs
-- have
pub record Drawn (xs os bs : List ℕ) (k i o b : ℕ) : Type 0 where
  pub index : i < k
  pub front : k ≤ length xs
  pub not_empty : 0 < slice_index xs i
  pub offset_places : o ≡ length os
  pub block_places : b ≡ length bs

pub drawn : {xs os bs : List ℕ} {k i o b : ℕ} → i < k → k ≤ length xs → 0 < slice_index xs i → o ≡ length os
    → b ≡ length bs → Drawn xs os bs k i o b
drawn l m s u v = record { index = l; front = m; not_empty = s; offset_places = u; block_places = v }

module _ {xs js os bs F : List ℕ} {site : Site} {p : ManagedPlan} (A : Accepted xs js os bs F site p) where
  abbrev w : ℕ
  w = site.offset_size

  abbrev call : Call
  call = call_in xs js site os bs F

  plans : planned_for xs (length os) (length bs) w ≡ Ok p
  plans = planned (accepted A)

  -- a file that still holds the region holds the heap
  pub holds : {h : FractalHeapHeader} {G : List ℕ} → h ≡ root_header site p → HoldsRegion G call p
      → HoldsHeap h G w call p
  holds k r =
      record {
        writer_accepts = accepted A;
        holds_region = r;
        is_header = rw k (header_is A);
        offset_size_is = refl;
      }

  -- under this header its objects are managed
  pub managed : {h : FractalHeapHeader} {k i : ℕ} → h ≡ root_header site p → i < k → k ≤ length xs
      → ObjectIsManaged h call i
  managed {i = i} is l m = rw is (all-managed A i (omega arith))

  pub its-id : {k i : ℕ} {id : List ℕ} → i < k → k ≤ length xs → 0 < slice_index xs i
      → id ≡ object_id w (take k xs) i → IsIdOf id call k i
  its-id l m s d = record { index = l; front = m; not_empty = s; id_given = d }

  module _ {k i o b : ℕ} (D : Drawn xs os bs k i o b) where
    accepted-id : id_checked fixed (object_start w (take k xs) i) (slice_index (take k xs) i) 8 ≡ Ok tt
    accepted-id =
        ((early-id-holds call p (accepted A) (file_with site p xs js F) (holds-there (accepted A) F refl)
        (root_header site p) (header_is A) k i D.index
        (omega (arith, D.index, D.front)) D.not_empty).comes_back
        (all-managed A i (omega (arith, D.index, D.front)))).id_accepted
        8 (omega arith)

    -- it is given this ID
    id-given : early_id (take k xs) i o b w ≡ Ok (object_id w (take k xs) i)
    id-given =
        (λ j. early_id (take k xs) i (D.offset_places j) (D.block_places j) w)
        ∙ rw ((front-parts-fit xs (length os) (length bs) w p plans k).accepted, accepted-id)

    pub given-is : {id : List ℕ} → Ok id ≡ early_id (take k xs) i o b w → id ≡ object_id w (take k xs) i
    given-is d = let g = id-given in cc

    pub not-refused : {f : FormatError} → Err f ≡ early_id (take k xs) i o b w → ⊥
    not-refused d = let g = id-given in cc

    -- lists that have the plan of the whole have it still
    pub lists-stay : {offsets offsets' blocks blocks' : List ℕ} → ListsHavePlan w xs os offsets bs blocks
        → offsets' ≡ list_after (planned_for (take k xs) o b w) (plan_offsets fixed w (take k xs)) offsets
        → blocks' ≡ list_after (planned_for (take k xs) o b w) (plan_starts fixed w (take k xs)) blocks
        → ListsHavePlan w xs os offsets' bs blocks'
    lists-stay L x y =
        let P = front-parts-fit xs (length os) (length bs) w p plans k in
        record {
          offsets_listed =
              x ∙ (λ j. list_after (planned_for (take k xs) (D.offset_places j) (D.block_places j) w)
              (plan_offsets fixed w (take k xs)) (L.offsets_listed j))
              ∙ rw (P.accepted, P.same_offsets)
              (front-again (plan_offsets fixed w xs) (take k (plan_offsets fixed w xs))
              (drop k (plan_offsets fixed w xs)) os
              (sym (take-append-drop k (plan_offsets fixed w xs))));
          blocks_listed =
              y ∙ (λ j. list_after (planned_for (take k xs) (D.offset_places j) (D.block_places j) w)
              (plan_starts fixed w (take k xs)) (L.blocks_listed j))
              ∙ rw (P.accepted)
              (front-again (plan_starts fixed w xs) (plan_starts fixed w (take k xs)) P.later bs
              (P.same_blocks (omega (arith, D.index))));
        }

-- a value that is answered, whatever it is
pub if-answered : {T : Type 0} (r : Result T FormatError) (P : T → Type 0) → ((x : T) → r ≡ Ok x → P x) → IfOk r P
if-answered (Ok x) P h = h x refl
if-answered (Err f) P h = tt
