-- What is left of `put_header`: fields and checksum stand in front of what was behind them.
use Rattle.std.proofs.Common.{◌∙◌, ap, sym}
use Rattle.fields.specs.LittleEndian.{le}
use Rattle.fields.proofs.Writing.{le_four}
use Rattle.checksum.specs.Lookup3.{hashlittle}
use Rattle.fractal_heap.specs.Header.{header_of}
use Rattle.fractal_heap.specs.Spelling.{unsummed}
use Rattle.fractal_heap.proofs.Written.{parts_put, length-header_spelled}
use Rattle.fractal_heap.proofs.write.put_header.Goals as goal

pub returns-clause-written : goal.returns-clause-written
returns-clause-written c =
    let a = c.args in
    let h = header_of a.numbers.now in
    let summed = unsummed h a.offset_size a.length_size in
    let checksum = c.jenkins_lookup3-checksum.ensures ∙ ap hashlittle c.put_unsummed.ensures in
    let seal = c.copy_from_slice.ensures.after ∙ c.to_le_bytes.ensures ∙ le_four _ ∙ ap (le 4) checksum in
    let long = length-header_spelled h a.offset_size a.length_size ∙ sym c.header_length.ensures in
    parts_put a.bytes.now summed (le 4 (hashlittle summed)) _ _ _ c.header_length.result c.put_unsummed.ensures seal
    c.split_at_mut-header.ensures.back long
