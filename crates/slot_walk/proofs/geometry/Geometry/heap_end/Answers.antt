-- What is left of `heap_end`: one doubled no more than 48 times is far below 2 ^ 64.
use Rattle.std.proofs.Common.{◌^◌, ◌≤◌, arith, pow_mono}
use Rattle.slot_walk.proofs.geometry.Geometry.heap_end.Goals as goal

pub overflow_add-end : goal.overflow_add-end
overflow_add-end c =
    let h : 2 ^ c.loop-bit._bit ≤ 2 ^ 48 =
    pow_mono {i = c.loop-bit._bit} {j = 48} (omega (arith, c.requires.heap)) in
    omega (arith, c.loop-bit.invariant)
