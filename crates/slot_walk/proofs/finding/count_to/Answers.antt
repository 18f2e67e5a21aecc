-- What is left of `count_to`: the fixed table has no more than eight levels.
use Rattle.std.proofs.Common.{sym, subst}
use Rattle.table.specs.Table.{Table, max_rows}
use Rattle.slot_walk.specs.Blocks.{IsNested}
use Rattle.slot_walk.proofs.Levels.{eight-enough}
use Rattle.slot_walk.proofs.finding.count_to.Goals as goal

pub count_to_in-requires-clause-levels : goal.count_to_in-requires-clause-levels
count_to_in-requires-clause-levels c =
    subst (λ (t : Table). IsNested t 8 (max_rows t)) (sym c.fixed.ensures.table) eight-enough

pub returns-clause-levels : goal.returns-clause-levels
returns-clause-levels c = eight-enough
