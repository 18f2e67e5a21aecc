-- How deep indirect blocks stand in one another: each has fewer rows than the one that it stands in, by one more than
-- the width's logarithm.
use Rattle.std.proofs.Common.{ℕ, zero, suc, ◌+◌, ◌-◌, ◌*◌, ◌≤◌, ◌<◌, ◌≡◌, subst, arith}
use Rattle.table.specs.Table.{Table, fixed, row_bits, max_rows}
use Rattle.slot_walk.specs.Blocks.{IsNested}
use Rattle.slot_walk.specs.Laws.{LevelsEnough}

module _ (t : Table) where
  -- fewer rows are no deeper
  pub nested-fewer : (levels m n : ℕ) → m ≤ n → IsNested t levels n → IsNested t levels m
  unfolding IsNested
  nested-fewer zero m n l N = omega arith
  nested-fewer (suc k) m n l N = λ row u d. N row (omega arith) d

  -- an indirect slot is a block of one level fewer
  pub nested-inside : (levels n row : ℕ) → IsNested t levels n → row < n → t.direct_bits < row_bits t row
      → (0 < levels) × IsNested t (levels - 1) (row - t.width_bits)
  unfolding IsNested
  nested-inside zero n row N l d = absurd (omega arith)
  nested-inside (suc k) n row N l d = (
    omega arith,
    subst (λ (y : ℕ). IsNested t y (row - t.width_bits)) (let e : k ≡ suc k - 1 = omega arith in e) (N row l d),
  )

  module _ (g : t.start_bits ≤ t.direct_bits) where
    nested-enough : (levels n : ℕ) → n ≤ t.direct_bits - t.start_bits + 2 + levels * (t.width_bits + 1)
        → IsNested t (suc levels) n
    unfolding IsNested
    nested-enough zero n h = λ row l d. absurd (omega arith)
    nested-enough (suc k) n h = λ row l d. nested-enough k (row - t.width_bits) (omega arith)

pub eight-enough : IsNested fixed 8 (max_rows fixed)
eight-enough = nested-enough fixed (omega arith) 7 29 (omega arith)

pub levels-enough : LevelsEnough
levels-enough = record { any = λ t h levels n l. nested-enough t h.start_in_direct levels n l; eight = eight-enough }
