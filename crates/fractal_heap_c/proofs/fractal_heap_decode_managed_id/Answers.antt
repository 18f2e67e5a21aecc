-- What is left of `fractal_heap_decode_managed_id`: an ID that was written decodes to its pair, and C finds it in the
-- slot.
use Rattle.std.proofs.Common.{ap, ◌∙◌}
use Rattle.fields.specs.Slot.{slot_number, slot_bytes}
use Rattle.refusals.specs.Refusals.{report_of}
use Rattle.ids.specs.Decoded.{id_report}
use Rattle.fractal_heap_c.proofs.Naming.{names-pair}
use Rattle.fractal_heap_c.proofs.fractal_heap_decode_managed_id.Goals as goal

pub returns-clause-kept : goal.returns-clause-kept
returns-clause-kept c h g geometry =
    let a = c.args in
    let said = c.answer.ensures ∙ ap (report_of id_report) c.decode.ensures in
    names-pair a.slot.now a.file.now a.id.now a.at a.offset_size a.length_size g geometry
    (c.put_answer.ensures.number ∙ ap (slot_number a.slot.now) said)
    (c.put_answer.ensures.slot_after ∙ ap (slot_bytes a.slot.now) said)
