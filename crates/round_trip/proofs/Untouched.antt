-- What comes of a file that nothing happens to.
use Rattle.std.proofs.Common.{◌≡◌, ℕ, ◌<◌, ◌≤◌, List, ◌++◌, length, take, drop, slice_index, Result, Ok, Err, IfOk}
use Rattle.std.proofs.Common.{OnOk, refl, ap, ap₂, ◌∙◌}
use Rattle.refusals.specs.declared.FormatError.{FormatError}
use Rattle.plan.specs.declared.ManagedPlan.{ManagedPlan}
use Rattle.region_blocks.specs.declared.Site.{Site}
use Rattle.region_write.specs.Region.{region}
use Rattle.heap_kept.specs.HeapKept.{part_of}
use Rattle.heap_kept.specs.Kept.{IsFetched}
use Rattle.heap_kept.proofs.Keeping.{size-is}
use Rattle.round_trip.specs.InFile.{serialized_in, file_with, ListsHavePlan}
use Rattle.round_trip.specs.Backs.{returned_count}
use Rattle.round_trip.specs.Objects.{root_header}
use Rattle.round_trip.specs.Passed.{counted_in, fetched_in}
use Rattle.round_trip.specs.RoundTrip.{nonempty_count, came_back}
use Rattle.round_trip.proofs.Back.{holds-there}
use Rattle.round_trip.proofs.WholeWay.{Accepted, accepted, all-came}
use Rattle.round_trip.proofs.Fetching.{holds, its-id}

module _ (xs js os bs F : List ℕ) (site : Site) (file : List ℕ) where
  -- all objects are counted
  pub all_counted : (offsets blocks : List ℕ) {result : Result ℕ FormatError} (r : Result ManagedPlan FormatError)
      → serialized_in site xs os bs js F ≡ r
      → IfOk r (λ plan. file ≡ file_with site plan xs js F) → result ≡ counted_in r site xs offsets js file
      → OnOk result (ListsHavePlan site.offset_size xs os offsets bs blocks) → result ≡ came_back r (nonempty_count xs)
  all_counted offsets blocks (Ok p) e f q o =
      let A : Accepted xs js os bs F site p = record { answer = e } in
      let L = rw q at o in
      q ∙ ap Ok (ap₂ (λ (v s : List ℕ). returned_count (root_header site p) s site.offset_size xs v js)
      L.offsets_listed f ∙ all-came A)
  all_counted offsets blocks (Err x) e f q o = q

  -- what `fetch_after` says of an object of a file with this plan's region
  abbrev Kept : ℕ → List ℕ → List ℕ → Result ℕ FormatError → ManagedPlan → Type 0
  Kept i old new result plan =
      take plan.region_size (drop site.region_address file) ≡ region site plan.root_rows xs js
      → slice_index xs i ≤ length old → IsFetched result old new (part_of xs js i)

  -- the object is fetched with its bytes
  module _ (k i : ℕ) (old new : List ℕ) {result : Result ℕ FormatError} (l : i < k) (m : k ≤ length xs)
      (s : 0 < slice_index xs i) (room : slice_index xs i ≤ length old) where
    fetched-all : {p : ManagedPlan} → serialized_in site xs os bs js F ≡ Ok p → file ≡ file_with site p xs js F
        → Kept i old new result p
        → (result ≡ Ok (slice_index xs i)) × (new ≡ part_of xs js i ++ drop (slice_index xs i) old)
    fetched-all {p = p} e f K =
        let A : Accepted xs js os bs F site p = record { answer = e } in
        let H = holds-there (accepted A) F refl in
        let n = size-is (holds A refl H) (its-id A l m s refl) in
        let D = K (rw f H.region_there) room in
        (D.length_answered ∙ ap Ok n, D.bytes_copied ∙ ap (λ (x : ℕ). part_of xs js i ++ drop x old) n)

    pub fetched-answer : (r : Result ManagedPlan FormatError) → serialized_in site xs os bs js F ≡ r
        → IfOk r (λ plan. file ≡ file_with site plan xs js F) → IfOk r (Kept i old new result)
        → result ≡ fetched_in r site xs k i file (length old)
        → (result ≡ came_back r (slice_index xs i)) × OnOk result (new ≡ part_of xs js i ++ drop (slice_index xs i) old)
    fetched-answer (Ok p) e f K q =
        let D = fetched-all e f K in (D.0, rw D.0 D.1)
    fetched-answer (Err x) e f K q = (q, rw q tt)
