-- What is left of `write`: the header of its own numbers is itself, but for its filters.
use Rattle.std.proofs.Common.{subst, ◌≡◌, length}
use Rattle.std.specs.Prelude.{OnOk}
use Rattle.fields.specs.LittleEndian.{put}
use Rattle.fractal_heap.specs.Spelling.{header_spelled}
use Rattle.fractal_heap.specs.Writing.{header_written, ReadsBack, WrittenBack}
use Rattle.fractal_heap.specs.declared.header.FractalHeapHeader.{FractalHeapHeader}
use Rattle.fractal_heap.proofs.Written.{header_of-numbers, parsed_is_read_back, filters_unread}
use Rattle.fractal_heap.proofs.header.FractalHeapHeader.write.Goals as goal

pub returns-clause-answered : goal.returns-clause-answered
returns-clause-answered c =
    let a = c.args in
    subst
    (λ (h : FractalHeapHeader).
    c.write_numbers.result ≡ header_written h a.offset_size a.length_size (length a.bytes.now))
    (header_of-numbers a.self _ c.numbers.ensures) c.write_numbers.ensures.answered

pub returns-clause-written : goal.returns-clause-written
returns-clause-written c =
    let a = c.args in
    subst
    (λ (h : FractalHeapHeader).
    OnOk c.write_numbers.result
    (c.write_numbers.new.bytes ≡ put a.bytes.now 0 (header_spelled h a.offset_size a.length_size)))
    (header_of-numbers a.self _ c.numbers.ensures) c.write_numbers.ensures.written

pub returns-clause-reads_back : goal.returns-clause-reads_back
returns-clause-reads_back c =
    let a = c.args in
    subst (λ (h : FractalHeapHeader). OnOk c.write_numbers.result (ReadsBack h a.offset_size a.length_size))
    (header_of-numbers a.self _ c.numbers.ensures) c.write_numbers.ensures.reads_back

pub returns-clause-parsed_reads_back : goal.returns-clause-parsed_reads_back
returns-clause-parsed_reads_back c =
    parsed_is_read_back c.args.self c.args.offset_size c.args.length_size _ _ (returns-clause-answered c)

pub returns-clause-written_back : goal.returns-clause-written_back
returns-clause-written_back c =
    let a = c.args in
    filters_unread a.self a.offset_size a.length_size _ _
    (subst
    (λ (h : FractalHeapHeader).
    WrittenBack h a.offset_size a.length_size c.write_numbers.result c.write_numbers.new.bytes)
    (header_of-numbers a.self _ c.numbers.ensures) c.write_numbers.ensures.written_back)
