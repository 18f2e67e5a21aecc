-- What is left of `fetch_at_unchecked`: what the header writer accepted is the header that is parsed.
use Rattle.std.proofs.Common.{◌≡◌, subst}
use Rattle.fractal_heap.specs.Header.{without_filters}
use Rattle.fractal_heap.specs.declared.header.FractalHeapHeader.{FractalHeapHeader}
use Rattle.heap_kept.specs.HeapKept.{ObjectIsManaged}
use Rattle.heap_kept.specs.Kept.{HoldsHeap}
use Rattle.heap_kept.proofs.FromBytes.{parsed-written, plain-held}
use Rattle.heap_kept.proofs.object_bytes.unchecked.fetch_at_unchecked.Goals as goal

pub returns-in_err-header-clause-kept : goal.returns-in_err-header-clause-kept
returns-in_err-header-clause-kept c h B call p k i H I m room =
    let parsed = parsed-written B in
    let refused = c.in_err-header.ensures.parsed in
    absurd cc

pub returns-clause-kept : goal.returns-clause-kept
returns-clause-kept c h B call p k i H I m room =
    let parsed = parsed-written B in
    let answered = c.in_ok-header.ensures.parsed in
    let same : without_filters h ≡ c.in_ok-header.header = cc in
    c.fetch_unchecked.ensures.kept call p k i
    (subst (λ (x : FractalHeapHeader). HoldsHeap x c.args.file.now c.args.offset_size call p) same (plain-held H)) I
    (subst (λ (x : FractalHeapHeader). ObjectIsManaged x call i) same m) room
