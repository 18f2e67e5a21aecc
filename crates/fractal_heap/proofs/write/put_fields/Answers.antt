-- What is left of `put_fields`: the groups' bytes are those of all fields.
use Rattle.fractal_heap.proofs.Written.{puts-append, puts-as, spelled_by_fours, width_by_fours}
use Rattle.fractal_heap.proofs.write.put_fields.Goals as goal

pub returns : goal.returns
returns c =
    let a = c.args in
    let e = c.field_widths-widths.ensures in
    let width = width_by_fours a.offset_size a.length_size _ e in
    let bytes = spelled_by_fours a.offset_size a.length_size a.numbers.now _ e in
    let all =
    puts-append c.put_four.ensures
    (puts-append c.put_four-2.ensures
    (puts-append c.put_four-3.ensures
    (puts-append c.put_four-4.ensures
    (puts-append c.put_four-5.ensures
    (puts-append c.put_field.ensures
    (puts-append c.put_field-2.ensures
    c.put_field-3.ensures)))))) in
    puts-as all width bytes
