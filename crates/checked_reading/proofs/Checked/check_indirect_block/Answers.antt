-- What is left of `check_indirect_block`: a size that was cut to 64 bits is tested as it was before, and one that
-- passed was not cut.
use Rattle.std.proofs.Common.{◌∙◌, sym, arith}
use Rattle.std.proofs.lemmas.Grind.{common_steps}
use Rattle.checked_reading.specs.Blocks.{indirect_size, indirect_checked}
use Rattle.checked_reading.proofs.Sizes.{length-tested, size-uncut, indirect-room}
use Rattle.checked_reading.proofs.Passing.{indirect-tested}
use Rattle.checked_reading.proofs.Checked.check_indirect_block.Goals as goal

pub returns-in_err-ensure_len : goal.returns-in_err-ensure_len
unfolding indirect_checked
returns-in_err-ensure_len c =
    let search = c.args.search.now in
    let cut = c.to_usize-size.ensures ∙ c.indirect_size.ensures in
    let size = indirect_size search.table search.offset_size c.args.nrows in
    let same = length-tested search.file.now c.to_usize-at.result c.to_usize-size.result size cut (omega arith) in
    grind (arith, common_steps)

pub check_indirect_bytes-requires-clause-room : goal.check_indirect_bytes-requires-clause-room
check_indirect_bytes-requires-clause-room c =
    let cut = c.to_usize-size.ensures ∙ c.indirect_size.ensures in
    let there = c.in_ok-ensure_len.ensures.there in
    let search = c.args.search.now in
    indirect-room search.table search.offset_size c.args.nrows _ _ _ (size-uncut _ _ _ _ cut there (omega arith)) there

pub returns : goal.returns
returns c =
    let cut = c.to_usize-size.ensures ∙ c.indirect_size.ensures in
    let there = c.in_ok-ensure_len.ensures.there in
    let whole = size-uncut _ _ _ _ cut there (omega arith) in
    let search = c.args.search.now in
    c.check_indirect_bytes.ensures
    ∙ sym (indirect-tested c.args.self.now search.table search.file.now search.offset_size c.args.addr c.args.nrows
    c.args.start _ _ (sym c.if-not-is_width.ensures) c.to_usize-at.ensures whole there)
