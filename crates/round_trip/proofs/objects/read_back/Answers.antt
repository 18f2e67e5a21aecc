-- What is left of `read_back`: each object is counted, and at the end all are.
use Rattle.std.proofs.Common.{ap, ◌∙◌, arith}
use Rattle.numbers.specs.Sums.{bit}
use Rattle.round_trip.proofs.Backs.{counting-next, counting-end, one_more}
use Rattle.round_trip.proofs.objects.read_back.Goals as goal

pub overflow_add-back : goal.overflow_add-back
overflow_add-back c =
    omega (
      arith,
      c.min-i-end.ensures,
      one_more c.loop-i.invariant
          (omega (arith, c.min-i-end.ensures, c.loop-i-test.true))
          (omega (arith, c.min-end.ensures, c.saturating_add.ensures)) (c.from-back.ensures
          ∙ ap bit c.comes_back.ensures),
    )

pub loop-i-preserved : goal.loop-i-preserved
loop-i-preserved c =
    counting-next c.loop-i.invariant (omega (arith, c.min-i-end.ensures, c.loop-i-test.true))
    (omega (arith, c.min-end.ensures, c.saturating_add.ensures)) (c.from-back.ensures
    ∙ ap bit c.comes_back.ensures)

pub returns : goal.returns
returns c = counting-end c.loop-i.invariant (omega (arith, c.min-i-end.ensures, c.loop-i-test.false))
