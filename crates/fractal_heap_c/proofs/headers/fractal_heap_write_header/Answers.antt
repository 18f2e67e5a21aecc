-- What is left of `fractal_heap_write_header`: what is accepted is read back, and what was read is written back.
use Rattle.std.proofs.Common.{Result, sym, ap, subst, ◌∙◌, OnOk}
use Rattle.fields.specs.Slot.{slot_number}
use Rattle.fractal_heap.specs.Header.{header_of}
use Rattle.refusals.specs.declared.FormatError.{FormatError}
use Rattle.fractal_heap.specs.declared.write.WrittenHeader.{WrittenHeader}
use Rattle.fractal_heap.specs.Writing.{ReadsBack, WrittenBack}
use Rattle.fractal_heap_c.proofs.Refusing.{written_holds}
use Rattle.fractal_heap_c.proofs.headers.fractal_heap_write_header.Goals as goal
use Rattle.fractal_heap_c.proofs.headers.fractal_heap_write_header.Goals.{in_default-via-in-Err+in-UnexpectedEof-1}
use Rattle.fractal_heap_c.proofs.headers.fractal_heap_write_header.Goals.{in_default-via-in-Ok-1}

pub returns-in_default-clause-reads_back : goal.returns-in_default-clause-reads_back
returns-in_default-clause-reads_back c zero =
    let a = c.args in
    let back : OnOk c.in_default-1.written (ReadsBack (header_of a.fields.now) a.offset_size a.length_size) =
    elim c.in_default-1.branch [
      | in_default-via-in-Err+in-UnexpectedEof-1 w ↦ rw w.written-is tt
      | in_default-via-in-Ok-1 w ↦ rw w.written-is c.write_numbers.ensures.reads_back
    ] in
    written_holds a.slot.now c.in_default-1.written back
    (ap (slot_number a.slot.now) (sym c.answer.ensures) ∙ sym c.put_answer.ensures.number ∙ zero)

pub returns-in_default-clause-written_back : goal.returns-in_default-clause-written_back
returns-in_default-clause-written_back c many places =
    let a = c.args in
    subst
    (λ (r : Result WrittenHeader FormatError).
    WrittenBack (header_of a.fields.now) a.offset_size a.length_size r c.write_numbers.new.bytes)
    c.write_numbers.ensures.answered c.write_numbers.ensures.written_back
