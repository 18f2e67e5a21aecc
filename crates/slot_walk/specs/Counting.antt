-- Counting slots by size along the walk, into lent places: place k is that of the k-th size, the
-- starting block's being the 0th.
use Rattle.std.specs.Prelude.{ℕ, ◌+◌, ◌-◌, ◌^◌, ◌≤◌, ◌<◌, ◌≡◌, ◌&&◌, List}
use Rattle.std.specs.Prelude.{Bool, Result, Ok, Err, Option, Some, None}
use Rattle.std.specs.Prelude.{length, slice_index, nat_lt, nat_le, if◌then◌else◌}
use Rattle.refusals.specs.declared.FormatError.{FormatError}
use Rattle.refusals.specs.declared.FormatError.TheVariants.{OutsideHeap}
use Rattle.table.specs.Table.{Table, row_offset, max_rows}
use Rattle.slot_walk.specs.HeapOrder.{sizes, of_size, of_sizes}
use Rattle.slot_walk.specs.Blocks.{Block}

-- a heap has 1 row up to the largest root's
abbrev pub heap_has : (table : Table) (rows : ℕ) → Bool
heap_has table rows = nat_lt 0 rows && nat_le rows (max_rows table)

-- how many direct slots such rows have of each of so many sizes
abbrev pub slot_counts : (table : Table) (places rows : ℕ) → Result (List ℕ) FormatError
slot_counts table places rows =
    if heap_has table rows
    then Ok (of_sizes table.start_bits places (sizes table rows))
    else Err (OutsideHeap rows)

-- what they span
abbrev pub heap_rows_end : (table : Table) (rows : ℕ) → Option ℕ
heap_rows_end table rows = if heap_has table rows then Some (row_offset table rows) else None

-- ---- a walk through a part of the list

-- `after` is `before` with slots of the passed sizes counted in
pub record Tallied (table : Table) (passed before after : List ℕ) : Type 0 where
  pub places : length after ≡ length before
  pub each_size : (k : ℕ) → k < length before
      → slice_index after k ≡ slice_index before k + of_size (2 ^ (table.start_bits + k)) passed

-- a block, with a place for each size of a direct slot, and no more slots counted so far than bytes
-- passed
pub record CountBlock (table : Table) (levels at end : ℕ) (counts : List ℕ) : Type 0 where
  pub block : Block table levels at end
  pub places : table.direct_bits - table.start_bits < length counts
  pub up_to_bytes : (k : ℕ) → slice_index counts k ≤ at

-- its slots counted in, whatever number of rows fills it
pub record BlockCounted (table : Table) (at end : ℕ) (before after : List ℕ) : Type 0 where
  pub at_any_rows : (rows : ℕ) → end ≡ at + row_offset table rows
      → Tallied table (sizes table rows) before after
