-- Laws of the walk, one block at a time.
use Rattle.std.proofs.Common.{◌≡◌, ℕ, zero, suc, ◌+◌, ◌-◌, ◌<◌, List, length, sym, arith}
use Rattle.std.specs.Prelude.{Option, Some, Result, Ok, Err}
use Rattle.numbers.specs.Numbers.{saturated}
use Rattle.refusals.specs.Steps.{◌>>=◌}
use Rattle.refusals.specs.declared.FormatError.{FormatError}
use Rattle.refusals.specs.declared.FormatError.TheVariants.{UnexpectedEof, DepthExceeded}
use Rattle.reading.specs.declared.rows.DoublingTable.{DoublingTable}
use Rattle.fields.specs.declared.place.Place.{Place}
use Rattle.reading.specs.declared.children.HeapChild.{HeapChild}
use Rattle.reading.specs.declared.children.HeapChild.TheVariants.{Indirect}
use Rattle.reading.specs.Blocks.{child_at}
use Rattle.reading.specs.Walk.{Taking, by_child, walk_by}

pub walk_none : (taking : Taking) (table : DoublingTable) (s : List ℕ) (w t len d a n start : ℕ) → d ≡ 0
    → walk_by taking table s w t len d a n start ≡ Err DepthExceeded
unfolding walk_by
walk_none taking table s w t len d a n start e = rw e

-- what follows the child that was found in a block, with d blocks to go behind it
abbrev pub block_passed : (taking : Taking) (table : DoublingTable) (s : List ℕ) (w t len d : ℕ)
    (child : Option HeapChild) → Result Place FormatError
block_passed taking table s w t len d child =
    by_child child taking.object (λ b m o. walk_by taking table s w t len d b m o)
    (UnexpectedEof (saturated (t + len)) (length s))

-- one block, and the child in it
pub walk_more : (taking : Taking) (table : DoublingTable) (s : List ℕ) (w t len d a n start : ℕ) → 0 < d
    → walk_by taking table s w t len d a n start ≡ (taking.opened a n start
    >>= (λ _. child_at table s a n start t w >>= block_passed taking table s w t len (d - 1)))
unfolding walk_by
walk_more taking table s w t len zero a n start h = absurd (omega arith)
walk_more taking table s w t len (suc d) a n start h = let e : suc d - 1 ≡ d = omega arith in rw e

-- with blocks to go, the walk goes on in a child that is an indirect block
pub walk_deeper : (taking : Taking) (table : DoublingTable) (s : List ℕ) (w t len k a n start : ℕ) {d b m o : ℕ}
    → d ≡ suc k → Ok tt ≡ taking.opened a n start → Ok (Some (Indirect b m o)) ≡ child_at table s a n start t w
    → walk_by taking table s w t len d a n start ≡ walk_by taking table s w t len k b m o
unfolding walk_by
walk_deeper taking table s w t len k a n start e opened f = rw (e, sym opened, sym f)

-- what the loop of the walk comes to, block by block
pub ruleset walking = (walk_none, walk_more)
