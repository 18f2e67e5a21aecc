-- What is left of `early_id`: the object has an offset by the plan, and the ID writer decides.
use Rattle.std.proofs.Common.{Ok, refl, sym, ap, ◌∙◌, rules}
use Rattle.round_trip.proofs.Early.{placed, decided}
use Rattle.round_trip.proofs.ReadBack.{id_written}
use Rattle.round_trip.proofs.by_id.early_id.Goals as goal

pub bounds-offsets-i : goal.bounds-offsets-i
bounds-offsets-i c = placed _ _ _ _ _ (sym c.in_ok-new.ensures.answer) c.requires c.in_ok-new.ensures.offsets_after

pub returns-in_err-write_managed_id-clause-answer : goal.returns-in_err-write_managed_id-clause-answer
returns-in_err-write_managed_id-clause-answer c =
    let a = c.args in
    let new = c.in_ok-new.ensures in
    let d =
    decided a.sizes.now a.offsets.now _ _ _ (sym new.answer) c.requires new.offsets_after
    c.in_err-write_managed_id.ensures.answer in
    search rules

pub returns-clause-answer : goal.returns-clause-answer
returns-clause-answer c =
    let a = c.args in
    ap Ok (c.in_ok-write_managed_id.ensures.written ∙ id_written _ _ _ refl)
    ∙ sym (decided a.sizes.now a.offsets.now _ _ _ (sym c.in_ok-new.ensures.answer) c.requires
    c.in_ok-new.ensures.offsets_after c.in_ok-write_managed_id.ensures.answer)
