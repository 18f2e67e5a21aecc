-- The whole way from bytes: what the header writer accepts is parsed where it stands, and by it the reader finds every
-- object.
use Rattle.std.proofs.Common.{◌≡◌, sym, ap, ◌∙◌, ℕ, List, ◌++◌, drop, Ok}
use Rattle.std.proofs.lemmas.List.{take-append-drop}
use Rattle.fractal_heap.specs.declared.header.FractalHeapHeader.{FractalHeapHeader}
use Rattle.fractal_heap.specs.Header.{header_at, without_filters}
use Rattle.fractal_heap.specs.Writing.{header_length}
use Rattle.fractal_heap.proofs.Spelling.{spelled-read}
use Rattle.fractal_heap.proofs.Written.{accepted}
use Rattle.plan.specs.declared.ManagedPlan.{ManagedPlan}
use Rattle.heap_kept.specs.HeapKept.{Call, IsHeaderOf}
use Rattle.heap_kept.specs.Kept.{HoldsHeap}
use Rattle.heap_kept.specs.FromBytes.{HoldsHeader, WrittenHeapsAreRead}
use Rattle.heap_kept.specs.CheckedKept.{WrittenHeapsPass}
use Rattle.heap_kept.proofs.Theorem.{heap-kept}
use Rattle.heap_kept.proofs.Checked.{checked-kept}

-- what was written is parsed there, but for what the header has of filters
pub parsed-written : {file : List ℕ} {at : ℕ} {header : FractalHeapHeader} {os ls : ℕ}
    → HoldsHeader file at header os ls → header_at file at os ls ≡ Ok (without_filters header)
parsed-written {file} {at} {header} {os} {ls} H =
    let P = accepted header os ls H.lent H.writer_accepts in
    let n : ℕ = header_length os ls in
    spelled-read header file at os ls (drop n (drop at file)) P.offsets P.lengths P.plain P.fits
    (sym (take-append-drop n (drop at file)) ∙ ap (λ (front : List ℕ). front ++ drop n (drop at file)) H.header_there)

-- of which a header of a plan says nothing
pub plain-is : {header : FractalHeapHeader} {call : Call} {plan : ManagedPlan} → IsHeaderOf header call plan
    → IsHeaderOf (without_filters header) call plan
plain-is T =
    record {
      unfiltered = T.unfiltered;
      root_address = T.root_address;
      root_rows = T.root_rows;
      fixed_geometry = T.fixed_geometry;
    }

pub plain-held : {header : FractalHeapHeader} {file : List ℕ} {offset_size : ℕ} {call : Call} {plan : ManagedPlan}
    → HoldsHeap header file offset_size call plan → HoldsHeap (without_filters header) file offset_size call plan
plain-held H =
    record {
      writer_accepts = H.writer_accepts;
      holds_region = H.holds_region;
      is_header = plain-is H.is_header;
      offset_size_is = H.offset_size_is;
    }

pub written-read : WrittenHeapsAreRead
written-read call plan W header T file at ls B R i l s m =
    let parsed = parsed-written B in
    let back = heap-kept.comes_back call plan W file R (without_filters header) (plain-is T) i l s m in
    record {
      position = back.position;
      reader_accepts = rw parsed back.reader_accepts;
      bytes_there = back.bytes_there;
    }

pub written-passes : WrittenHeapsPass
written-passes call plan W header T sums file at ls B R i l s m =
    let parsed = parsed-written B in
    let back = checked-kept call plan W file R (without_filters header) (plain-is T) sums i l s m in
    record {
      position = back.position;
      reader_accepts = rw parsed back.reader_accepts;
      bytes_there = back.bytes_there;
    }
