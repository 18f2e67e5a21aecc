-- What is left of `named`: the slot says where the bytes are.
use Rattle.std.proofs.Common.{◌≡◌, ◌+◌, ◌-◌, true, false, arith}
use Rattle.fractal_heap_c.proofs.Taking.{taken-in-file, taken}
use Rattle.fractal_heap_c.proofs.tests.named.Goals as goal
use Rattle.fractal_heap_c.proofs.tests.named.Goals.{then-refusal-ne0-via-then-refusal-ne0}
use Rattle.fractal_heap_c.proofs.tests.named.Goals.{then-refusal-ne0-via-else-refusal-ne0+then-not-has_room}

pub returns-then-refusal-ne0 : goal.returns-then-refusal-ne0
returns-then-refusal-ne0 c bytes some N =
    elim c.then-refusal-ne0.branch [
      | then-refusal-ne0-via-then-refusal-ne0 w ↦ w.if-refusal-ne0.true N.answers_zero
      | then-refusal-ne0-via-else-refusal-ne0+then-not-has_room w ↦
          let inside : false ≡ true =
          w.if-not-has_room.ensures.1
          (omega (
            arith,
            taken-in-file N some,
            c.read_u64_le-start.ensures,
            c.read_u64_le-count.ensures,
          )) in
          cc
    ]

pub returns : goal.returns
returns c bytes some N =
    taken N c.read_u64_le-start.result
    (c.read_u64_le-start.result + c.read_u64_le-count.result - c.read_u64_le-start.result)
    c.read_u64_le-start.ensures
    (omega (arith, c.read_u64_le-count.ensures))
