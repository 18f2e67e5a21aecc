-- What is left of `mix_groups`: the groups by the laws of the loop, then the tail.
use Rattle.std.proofs.Common.{arith}
use Rattle.std.proofs.lemmas.List.{take_rest}
use Rattle.checksum.proofs.Loop.{loop_start, loop_more, loop-tail}
use Rattle.checksum.proofs.mix_groups.Goals as goal

pub loop-at-init : goal.loop-at-init
loop-at-init c = loop_start _ _ (omega arith) c.begun-s.ensures

pub loop-at-preserved : goal.loop-at-preserved
loop-at-preserved c = rw (c.mix-s.ensures, c.add_group.ensures) (loop_more c.loop-at.invariant (omega arith))

pub returns : goal.returns
returns c = rw (c.ended.ensures, take_rest) (loop-tail c.loop-at.invariant (omega arith))
