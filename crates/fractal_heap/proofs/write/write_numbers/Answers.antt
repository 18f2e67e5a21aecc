-- What is left of `write_numbers`: what is written is read, and what is read is written so.
use Rattle.fractal_heap.specs.Header.{header_of}
use Rattle.fractal_heap.proofs.Written.{is_read_back, is_written_back}
use Rattle.fractal_heap.proofs.write.write_numbers.Goals as goal

pub returns-clause-reads_back : goal.returns-clause-reads_back
returns-clause-reads_back c =
    let h = header_of c.args.numbers.now in
    is_read_back h c.args.offset_size c.args.length_size _ _ c.store_header.ensures.answered

pub returns-clause-written_back : goal.returns-clause-written_back
returns-clause-written_back c =
    is_written_back (header_of c.args.numbers.now) c.args.offset_size c.args.length_size c.args.bytes.now _ _
    c.store_header.ensures.answered c.store_header.auto.bytes c.store_header.ensures.written
