-- What is left of `check_fields`: the groups' tests are those of all fields.
use Rattle.std.proofs.Common.{arith}
use Rattle.std.proofs.lemmas.Grind.{common_steps}
use Rattle.fractal_heap.proofs.Written.{by_fours}
use Rattle.fractal_heap.proofs.write.check_fields.Goals as goal

pub returns-in_err-check_four : goal.returns-in_err-check_four
returns-in_err-check_four c =
    let e = by_fours c.args.offset_size c.args.length_size c.args.numbers.now _ c.field_widths-widths.ensures in
    rw e (grind (arith, common_steps))

pub returns-in_err-check_four-2 : goal.returns-in_err-check_four-2
returns-in_err-check_four-2 c =
    let e = by_fours c.args.offset_size c.args.length_size c.args.numbers.now _ c.field_widths-widths.ensures in
    rw e (grind (arith, common_steps))

pub returns-in_err-check_four-3 : goal.returns-in_err-check_four-3
returns-in_err-check_four-3 c =
    let e = by_fours c.args.offset_size c.args.length_size c.args.numbers.now _ c.field_widths-widths.ensures in
    rw e (grind (arith, common_steps))

pub returns-in_err-check_four-4 : goal.returns-in_err-check_four-4
returns-in_err-check_four-4 c =
    let e = by_fours c.args.offset_size c.args.length_size c.args.numbers.now _ c.field_widths-widths.ensures in
    rw e (grind (arith, common_steps))

pub returns-in_err-check_four-5 : goal.returns-in_err-check_four-5
returns-in_err-check_four-5 c =
    let e = by_fours c.args.offset_size c.args.length_size c.args.numbers.now _ c.field_widths-widths.ensures in
    rw e (grind (arith, common_steps))

pub returns-in_err-check_field : goal.returns-in_err-check_field
returns-in_err-check_field c =
    let e = by_fours c.args.offset_size c.args.length_size c.args.numbers.now _ c.field_widths-widths.ensures in
    rw e (grind (arith, common_steps))

pub returns-in_err-check_field-2 : goal.returns-in_err-check_field-2
returns-in_err-check_field-2 c =
    let e = by_fours c.args.offset_size c.args.length_size c.args.numbers.now _ c.field_widths-widths.ensures in
    rw e (grind (arith, common_steps))

pub returns : goal.returns
returns c =
    let e = by_fours c.args.offset_size c.args.length_size c.args.numbers.now _ c.field_widths-widths.ensures in
    rw e (grind (arith, common_steps))
