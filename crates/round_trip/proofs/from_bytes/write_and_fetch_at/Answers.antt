-- What is left of `write_and_fetch_at`: the file holds header and region, and so the object is fetched from its bytes.
use Rattle.std.proofs.Common.{◌≡◌, ℕ, List, Result, refl, sym, ap, ap₂, ◌∙◌, arith, length-drop}
use Rattle.refusals.specs.declared.FormatError.{FormatError}
use Rattle.plan.specs.declared.ManagedPlan.{ManagedPlan}
use Rattle.std.specs.Prelude.{slice_index}
use Rattle.fields.specs.LittleEndian.{put}
use Rattle.fractal_heap.specs.declared.header.FractalHeapHeader.{FractalHeapHeader}
use Rattle.fractal_heap.specs.Spelling.{header_spelled}
use Rattle.heap_kept.proofs.FromRoot.{width-legal}
use Rattle.heap_kept.proofs.Keeping.{size-is}
use Rattle.round_trip.specs.FromBytes.{file_with_both}
use Rattle.round_trip.specs.RoundTrip.{came_back}
use Rattle.round_trip.proofs.WholeWay.{accepts, accepted, root-sum, rows-small, if-accepted}
use Rattle.round_trip.proofs.Fetching.{drawn, given-is, not-refused, lists-stay, its-id}
use Rattle.round_trip.proofs.FromBytes.{header-passes, header-held, header-sums, heap-held, heap-managed, came}
use Rattle.round_trip.proofs.from_bytes.write_and_fetch_at.Goals as goal

pub planned_header-header-requires-clause-width : goal.planned_header-header-requires-clause-width
planned_header-header-requires-clause-width c = width-legal (accepted (accepts c.in_ok-plan.ensures.answer))

pub planned_header-header-requires-clause-root_fits : goal.planned_header-header-requires-clause-root_fits
planned_header-header-requires-clause-root_fits c = root-sum (accepts c.in_ok-plan.ensures.answer)

pub planned_header-header-requires-clause-rows_fit : goal.planned_header-header-requires-clause-rows_fit
planned_header-header-requires-clause-rows_fit c = rows-small (accepts c.in_ok-plan.ensures.answer)

-- the header writer accepts the plan's own header, and the object has an ID
pub returns-in_err-write_header_at : goal.returns-in_err-write_header_at
returns-in_err-write_header_at c =
    let room = c.requires.header_in_file in
    let same = c.serialize_at.auto.file in
    absurd (header-passes (accepts c.in_ok-plan.ensures.answer) (omega arith) c.planned_header-header.ensures
    (omega (arith, length-drop c.args.site.heap_header_address c.serialize_at.new.file))
    c.in_err-write_header_at.ensures.answered)

pub returns-in_err-id : goal.returns-in_err-id
returns-in_err-id c =
    absurd (not-refused (accepts c.in_ok-plan.ensures.answer)
    (drawn c.requires.among_early c.requires.early_in_list c.requires.not_empty c.serialize_at.auto.offsets
    c.serialize_at.auto.blocks) c.in_err-id.ensures.answer)

pub returns : goal.returns
returns c =
    let A = accepts c.in_ok-plan.ensures.answer in
    let D = drawn c.requires.among_early c.requires.early_in_list c.requires.not_empty c.serialize_at.auto.offsets
    c.serialize_at.auto.blocks in
    let id = given-is A D c.in_ok-id.ensures.answer in
    let I = its-id A c.requires.among_early c.requires.early_in_list c.requires.not_empty id in
    let g = c.in_ok-plan.ensures.region_in_file in
    let n = c.serialize_at.auto.file in
    let q = c.requires in
    let there = c.in_ok-write_header_at.ensures.written in
    let B = header-held A (omega arith) g n q.header_in_file q.header_before c.planned_header-header.ensures there in
    let H = heap-held A (omega arith) g n q.header_in_file q.header_before c.planned_header-header.ensures there in
    let M =
    heap-managed A (omega arith) g n q.header_in_file q.header_before c.planned_header-header.ensures there
    q.among_early q.early_in_list in
    let sums = header-sums c.args.site c.in_ok-plan.plan _ c.planned_header-header.ensures in
    let K = c.fetch_at.ensures.kept _ B sums _ _ _ _ H refl I M (omega (arith, size-is H I, q.room)) in
    let F = came A (omega arith) g n q.header_in_file q.header_before c.planned_header-header.ensures there
    c.args.found.now c.fetch_at.new.found I K in
    record {
      answer = F.0 ∙ ap (λ (r : Result ManagedPlan FormatError).
          came_back r (slice_index c.args.sizes.now c.args.i)) (sym A.answer);
      comes_back = rw F.0 F.1;
      both_in_file =
          if-accepted A (λ plan. c.write_header_at.new.file
          ≡ file_with_both c.args.site plan c.args.sizes.now c.args.objects.now c.args.file.now)
          (there ∙ ap₂ (λ (s : List ℕ) (h : FractalHeapHeader).
          put s c.args.site.heap_header_address (header_spelled h c.args.site.offset_size 8)) g
          c.planned_header-header.ensures);
      lists = rw F.0 (lists-stay A D c.in_ok-plan.ensures.lists c.early_id.ensures.offsets_after
          c.early_id.ensures.blocks_after);
      untouched = rw F.0 tt;
    }
