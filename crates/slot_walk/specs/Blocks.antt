-- What the engine walks: blocks of whole rows.
use Rattle.std.specs.Prelude.{ℕ, zero, suc, ◌+◌, ◌-◌, ◌≤◌, ◌<◌, ◌≡◌}
use Rattle.table.specs.Table.{Table, row_bits, row_offset, heap_space}

-- the indirect blocks in a block of so many rows stand no more than so many levels in one another,
-- itself the first
unfoldable pub IsNested : (table : Table) (levels rows : ℕ) → Type 0
IsNested table zero rows = rows ≡ 0
IsNested table (suc levels) rows =
    (row : ℕ) → row < rows → table.direct_bits < row_bits table row
    → IsNested table levels (row - table.width_bits)

-- a block from one heap offset to another: whole rows, in the heap, so many levels at most
pub record Block (table : Table) (levels at end : ℕ) : Type 0 where
  pub rows : ℕ
  pub ends : end ≡ at + row_offset table rows
  pub in_heap : end ≤ heap_space table
  pub nested : IsNested table levels rows
