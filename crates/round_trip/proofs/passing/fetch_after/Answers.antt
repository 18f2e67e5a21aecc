-- What is left of `fetch_after`: the object is fetched by the ID that it was given, from what the file has.
use Rattle.std.proofs.Common.{Result, sym, ap, ◌∙◌, arith, length}
use Rattle.plan.specs.declared.ManagedPlan.{ManagedPlan}
use Rattle.refusals.specs.declared.FormatError.{FormatError}
use Rattle.fractal_heap.specs.Read.{managed_unchecked}
use Rattle.heap_kept.specs.Kept.{fetched}
use Rattle.round_trip.specs.Passed.{fetched_in}
use Rattle.heap_kept.proofs.Keeping.{size-is}
use Rattle.round_trip.proofs.WholeWay.{accepts, root-sum, rows-small, on-accepted, if-accepted}
use Rattle.round_trip.proofs.Fetching.{drawn, given-is, not-refused, lists-stay, holds, managed, its-id, if-answered}
use Rattle.round_trip.proofs.passing.fetch_after.Goals as goal

pub root_header-requires-clause-root_fits : goal.root_header-requires-clause-root_fits
root_header-requires-clause-root_fits g c = root-sum (accepts c.in_ok-plan.ensures.answer)

pub root_header-requires-clause-rows_fit : goal.root_header-requires-clause-rows_fit
root_header-requires-clause-rows_fit g c = rows-small (accepts c.in_ok-plan.ensures.answer)

-- the writer accepts, so that the object has an ID
pub returns-in_err-id : goal.returns-in_err-id
returns-in_err-id g c =
    absurd (not-refused (accepts c.in_ok-plan.ensures.answer)
    (drawn c.requires.among_early c.requires.early_in_list c.requires.not_empty c.serialize_and_pass.auto.offsets
    c.serialize_and_pass.auto.blocks) c.in_err-id.ensures.answer)

pub returns-clause-answer : goal.returns-clause-answer
returns-clause-answer g c =
    let A = accepts c.in_ok-plan.ensures.answer in
    let D = drawn c.requires.among_early c.requires.early_in_list c.requires.not_empty c.serialize_and_pass.auto.offsets
    c.serialize_and_pass.auto.blocks in
    let d = given-is A D c.in_ok-id.ensures.answer in
    let file = c.serialize_and_pass.new.file in
    c.fetch_unchecked.ensures.answer
    ∙ (λ j. fetched (managed_unchecked (c.root_header.ensures j) file (d j) c.args.site.offset_size)
    (length c.args.found.now))
    ∙ ap (λ (r : Result ManagedPlan FormatError).
    fetched_in r c.args.site c.args.sizes.now c.args.early c.args.i file (length c.args.found.now)) (sym A.answer)

pub returns-clause-copied : goal.returns-clause-copied
returns-clause-copied g c =
    let A = accepts c.in_ok-plan.ensures.answer in
    let D = drawn c.requires.among_early c.requires.early_in_list c.requires.not_empty c.serialize_and_pass.auto.offsets
    c.serialize_and_pass.auto.blocks in
    let d = given-is A D c.in_ok-id.ensures.answer in
    let file = c.serialize_and_pass.new.file in
    if-accepted A _
    (if-answered _ _ (λ place e.
    c.fetch_unchecked.ensures.copied place
    ((λ j. managed_unchecked (c.root_header.ensures j) file (d j) c.args.site.offset_size) ∙ e)))

pub returns-clause-kept : goal.returns-clause-kept
returns-clause-kept g c =
    let A = accepts c.in_ok-plan.ensures.answer in
    let D = drawn c.requires.among_early c.requires.early_in_list c.requires.not_empty c.serialize_and_pass.auto.offsets
    c.serialize_and_pass.auto.blocks in
    let id = given-is A D c.in_ok-id.ensures.answer in
    let I = its-id A c.requires.among_early c.requires.early_in_list c.requires.not_empty id in
    if-accepted A _
    (λ region room.
    let H = holds A c.root_header.ensures (record { region_there = region }) in
    let M = managed A c.root_header.ensures c.requires.among_early c.requires.early_in_list in
    c.fetch_unchecked.ensures.kept _ _ _ _ H I M (omega (arith, size-is H I, room)))

pub returns-clause-lists : goal.returns-clause-lists
returns-clause-lists g c =
    let A = accepts c.in_ok-plan.ensures.answer in
    let D = drawn c.requires.among_early c.requires.early_in_list c.requires.not_empty c.serialize_and_pass.auto.offsets
    c.serialize_and_pass.auto.blocks in
    on-accepted A (lists-stay A D c.in_ok-plan.ensures.lists c.early_id.ensures.offsets_after
    c.early_id.ensures.blocks_after)
