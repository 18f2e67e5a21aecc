-- What is left of `stopping_block`, return by return.
use Rattle.std.proofs.Common.{sym, arith}
use Rattle.checked_reading.proofs.Stops.{stopping_undefined, stopping_widthless, stopping_direct, stopping_below}
use Rattle.checked_reading.proofs.Checked.stopping_block.Goals as goal

pub returns-then-is_undefined_addr : goal.returns-then-is_undefined_addr
returns-then-is_undefined_addr c = sym (stopping_undefined _ _ _ _ _ _ _ (sym c.if-is_undefined_addr.ensures))

pub returns-then-not-is_width : goal.returns-then-not-is_width
returns-then-not-is_width c =
    let there = sym c.if-is_undefined_addr.ensures in
    sym (stopping_widthless _ _ _ _ _ _ _ there (sym c.if-not-is_width.ensures))

pub returns-then-nrows-eq0 : goal.returns-then-nrows-eq0
returns-then-nrows-eq0 c =
    let there = sym c.if-is_undefined_addr.ensures in
    sym (stopping_direct _ _ _ _ _ _ _ there (sym c.if-not-is_width.ensures) c.if-nrows-eq0.true)

pub returns : goal.returns
returns c =
    let there = sym c.if-is_undefined_addr.ensures in
    let below = rw c.from.ensures at c.stopping_below.ensures in
    sym (stopping_below _ _ _ _ _ _ _ there (sym c.if-not-is_width.ensures) (omega arith) _ below)
