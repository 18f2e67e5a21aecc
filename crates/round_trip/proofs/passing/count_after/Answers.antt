-- What is left of `count_after`: the root's place and rows fit, and what is counted is what the file has then.
use Rattle.std.proofs.Common.{Result, sym, ap, ◌∙◌, Ok}
use Rattle.refusals.specs.declared.FormatError.{FormatError}
use Rattle.plan.specs.declared.ManagedPlan.{ManagedPlan}
use Rattle.round_trip.specs.Backs.{returned_count}
use Rattle.round_trip.specs.Passed.{counted_in}
use Rattle.round_trip.proofs.WholeWay.{accepts, root-sum, rows-small}
use Rattle.round_trip.proofs.passing.count_after.Goals as goal

pub root_header-header-requires-clause-root_fits : goal.root_header-header-requires-clause-root_fits
root_header-header-requires-clause-root_fits g c = root-sum (accepts c.in_ok-plan.ensures.answer)

pub root_header-header-requires-clause-rows_fit : goal.root_header-header-requires-clause-rows_fit
root_header-header-requires-clause-rows_fit g c = rows-small (accepts c.in_ok-plan.ensures.answer)

pub returns-clause-answer : goal.returns-clause-answer
returns-clause-answer g c =
    let a = c.args in
    let n = c.serialize_and_pass.new in
    let A = accepts c.in_ok-plan.ensures.answer in
    ap Ok (c.read_back.ensures
    ∙ (λ j. returned_count (c.root_header-header.ensures j) n.file a.site.offset_size a.sizes.now n.offsets
    a.objects.now))
    ∙ ap (λ (r : Result ManagedPlan FormatError). counted_in r a.site a.sizes.now n.offsets a.objects.now n.file)
    (sym A.answer)
