-- One, doubled as often as turns are done.
use Rattle.std.proofs.Common.{◌≡◌, ◌^◌}
use Rattle.slot_walk.proofs.geometry.Geometry.heap_end.Given as goal

abbrev pub invariant-loop-bit : goal.invariant-loop-bit
invariant-loop-bit l = l.end ≡ 2 ^ l._bit
