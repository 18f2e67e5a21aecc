-- What is left of `fractal_heap_read_managed_object_unchecked`: by the theorem C finds the place of the object that was
-- given the ID, by a header that parses or one that was written.
use Rattle.std.proofs.Common.{ap, ◌∙◌, arith}
use Rattle.fields.specs.Slot.{slot_number, slot_bytes}
use Rattle.refusals.specs.Refusals.{report_of}
use Rattle.fields.specs.Places.{place_report}
use Rattle.heap_kept.proofs.FromBytes.{parsed-written, plain-held}
use Rattle.fractal_heap_c.proofs.Naming.{names-kept}
use Rattle.fractal_heap_c.proofs.unchecked.fractal_heap_read_managed_object_unchecked.Goals as goal

pub returns-clause-kept : goal.returns-clause-kept
returns-clause-kept c h g =
    let a = c.args in
    let said = c.answer.ensures ∙ ap (report_of place_report) c.read.ensures.found in
    names-kept a.slot.now a.file.now a.id.now a.at a.offset_size a.length_size g (omega arith)
    (c.put_answer.ensures.number ∙ ap (slot_number a.slot.now) said)
    (c.put_answer.ensures.slot_after ∙ ap (slot_bytes a.slot.now) said)

pub returns-clause-from_bytes : goal.returns-clause-from_bytes
returns-clause-from_bytes c h B call plan early i H =
    let a = c.args in
    let said = c.answer.ensures ∙ ap (report_of place_report) c.read.ensures.found in
    names-kept a.slot.now a.file.now a.id.now a.at a.offset_size a.length_size (parsed-written B) (omega arith)
    (c.put_answer.ensures.number ∙ ap (slot_number a.slot.now) said)
    (c.put_answer.ensures.slot_after ∙ ap (slot_bytes a.slot.now) said) call plan early i (plain-held H)
