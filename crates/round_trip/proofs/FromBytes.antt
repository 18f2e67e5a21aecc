-- A file with header and region of a heap holds both, and the object is found there.
use Rattle.std.proofs.Common.{◌≡◌, ℕ, ◌+◌, ◌-◌, ◌^◌, ◌<◌, ◌≤◌, List, ◌++◌, length, take, drop, slice_index, Result}
use Rattle.std.proofs.Common.{Ok, Err}
use Rattle.std.proofs.Common.{true, OnOk, refl, sym, ap, ◌∙◌, arith, drop-drop}
use Rattle.refusals.specs.declared.FormatError.{FormatError}
use Rattle.fields.specs.LittleEndian.{put}
use Rattle.fields.proofs.LittleEndian.{put-after, put-here}
use Rattle.plan.specs.declared.ManagedPlan.{ManagedPlan}
use Rattle.region_blocks.specs.declared.Site.{Site}
use Rattle.fractal_heap.specs.declared.header.FractalHeapHeader.{FractalHeapHeader}
use Rattle.fractal_heap.specs.declared.write.WrittenHeader.{WrittenHeader}
use Rattle.fractal_heap.specs.Spelling.{header_spelled}
use Rattle.fractal_heap.specs.Writing.{header_length, header_written}
use Rattle.fractal_heap.proofs.Written.{length-header_spelled}
use Rattle.checked_reading.specs.Blocks.{has_checksum}
use Rattle.heap_kept.specs.HeapKept.{Call, ObjectIsManaged, part_of}
use Rattle.heap_kept.specs.Kept.{HoldsHeap, IsIdOf, IsFetched}
use Rattle.heap_kept.specs.FromBytes.{HoldsHeader}
use Rattle.heap_kept.specs.OwnHeader.{planned_header, OwnHeaderAccepted}
use Rattle.heap_kept.proofs.Keeping.{size-is}
use Rattle.heap_kept.proofs.OwnHeader.{own-headers-accepted}
use Rattle.round_trip.specs.InFile.{file_with}
use Rattle.round_trip.proofs.Back.{holds-there}
use Rattle.round_trip.proofs.Parts.{part_put}
use Rattle.round_trip.proofs.WholeWay.{Accepted, call_in, accepted}

-- a header that is written into the file from its address on
pub header_put : (file new : List ℕ) (a k : ℕ) → a ≤ length file → k ≡ length file - a → (out : List ℕ)
    → out ≡ take a file ++ (new ++ drop k (drop a file)) → (r : Result WrittenHeader FormatError) (bytes : List ℕ)
    → OnOk r (new ≡ put (take k (drop a file)) 0 bytes) → OnOk r (out ≡ put file a bytes)
header_put file new a k l e out o (Ok w) bytes h = o ∙ part_put file new a a k (omega arith) e bytes h
header_put file new a k l e out o (Err f) bytes h = h

-- a plan's own header says that direct blocks have a checksum
pub header-sums : (site : Site) (p : ManagedPlan) (n : ℕ) {h : FractalHeapHeader} → h ≡ planned_header site p n
    → has_checksum h.flags ≡ true
header-sums site p n is = ap (λ (x : FractalHeapHeader). has_checksum x.flags) is

module _ {xs js os bs F : List ℕ} {site : Site} {p : ManagedPlan} (A : Accepted xs js os bs F site p)
    (few : length xs < 2 ^ 64) where
  abbrev w : ℕ
  w = site.offset_size

  abbrev at : ℕ
  at = site.heap_header_address

  abbrev call : Call
  call = call_in xs js site os bs F

  own : OwnHeaderAccepted call p
  own = own-headers-accepted call p (accepted A) few

  -- the header writer accepts the plan's own header
  pub header-passes : {h : FractalHeapHeader} {lent : ℕ} {f : FormatError} → h ≡ planned_header site p (length xs)
      → header_length w 8 ≤ lent → Err f ≡ header_written h w 8 lent → ⊥
  header-passes {lent = lent} h room e =
      let passes = own.writer_accepts lent room in
      let refused = rw (h, passes) at e in
      absurd cc

  -- in a file G that holds the region the header is written before it
  module _ {G G' : List ℕ} {h : FractalHeapHeader} (g : G ≡ file_with site p xs js F) (n : length G ≡ length F)
      (inside : at + header_length w 8 ≤ length F) (before : at + header_length w 8 ≤ site.region_address)
      (is : h ≡ planned_header site p (length xs)) (there : G' ≡ put G at (header_spelled h w 8)) where
    abbrev bytes : List ℕ
    bytes = header_spelled h w 8

    whole : length bytes ≡ header_length w 8
    whole = length-header_spelled h w 8

    room : at + length bytes ≤ length G
    room = let k = whole in omega arith

    pub header-held : HoldsHeader G' at h w 8
    header-held =
        rw is (own.is_held G' at
        (let k : ℕ = header_length w 8 in
        ap (λ (s : List ℕ). take k (drop at s)) there
        ∙ ap (λ (m : ℕ). take m (drop at (put G at bytes))) (sym whole)
        ∙ put-here G at bytes room
        ∙ ap (λ (x : FractalHeapHeader). header_spelled x w 8) is))

    region-stays : drop site.region_address G' ≡ drop site.region_address G
    region-stays =
        let k = whole in
        let d : ℕ = site.region_address - (at + length bytes) in
        let e : site.region_address ≡ at + length bytes + d = omega (arith, whole) in
        ap (drop site.region_address) there
        ∙ ap (λ (m : ℕ). drop m (put G at bytes)) e
        ∙ sym (drop-drop d (at + length bytes) (put G at bytes))
        ∙ ap (drop d) (put-after G at bytes room)
        ∙ drop-drop d (at + length bytes) G
        ∙ ap (λ (m : ℕ). drop m G) (sym e)

    pub heap-held : HoldsHeap h G' w call p
    heap-held =
        record {
          writer_accepts = accepted A;
          holds_region =
              record {
                region_there =
                    ap (take p.region_size) (region-stays ∙ ap (drop site.region_address) g)
                    ∙ (holds-there (accepted A) F refl).region_there;
              };
          is_header = rw is own.is_header;
          offset_size_is = refl;
        }

    pub heap-managed : {k i : ℕ} → i < k → k ≤ length xs → ObjectIsManaged h call i
    heap-managed {i = i} l m = rw is (own.all_managed i (omega arith))

    -- and an object that is fetched there has its bytes
    pub came : {id : List ℕ} {k i : ℕ} (old new : List ℕ) {result : Result ℕ FormatError} → IsIdOf id call k i
        → IsFetched result old new (part_of xs js i)
        → (result ≡ Ok (slice_index xs i)) × (new ≡ part_of xs js i ++ drop (slice_index xs i) old)
    came {i = i} old new I D =
        let m = size-is heap-held I in
        (D.length_answered ∙ ap Ok m, D.bytes_copied ∙ ap (λ (x : ℕ). part_of xs js i ++ drop x old) m)
