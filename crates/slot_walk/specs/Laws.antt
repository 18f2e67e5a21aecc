-- What holds of the walk at every table.
use Rattle.std.specs.Prelude.{ℕ, suc, ◌+◌, ◌-◌, ◌*◌, ◌^◌, ◌≤◌, ◌<◌, ◌≡◌, ◌↔◌, Bool, true}
use Rattle.std.specs.Prelude.{List, slice_index}
use Rattle.std.specs.List.{Contains}
use Rattle.table.specs.Table.{Table, fixed, row_offset, max_rows}
use Rattle.table.specs.Slots.{Direct}
use Rattle.table_laws.specs.Laws.{IsTable}
use Rattle.table_laws.specs.Count.{count}
use Rattle.slot_walk.specs.HeapOrder.{sizes, slots, Chain, of_size, of_sizes, bytes_of}
use Rattle.slot_walk.specs.Blocks.{IsNested}

-- the list has the format's direct slots of so many rows, and no others, each once, in order and
-- without a gap
pub record Listed (table : Table) (rows : ℕ) : Type 0 where
  pub chain : Chain 0 (slots table rows) (row_offset table rows)
  pub formats : (start size : ℕ)
      → Contains (slots table rows) (record { start = start; size = size })
      ↔ Direct table rows start size

abbrev pub SlotsListed : Type 0
SlotsListed = (table : Table) → IsTable table → (rows : ℕ) → Listed table rows

-- in so many rows the format has so many direct slots of a size: a test that passes just the heap
-- offsets at which such a slot begins passes so many of them, and there is one
pub record SlotsOfSize (table : Table) (rows size number : ℕ) : Type 0 where
  pub test : ℕ → Bool
  pub passes : (start : ℕ) → (test start ≡ true) ↔ Direct table rows start size
  pub every : (any : ℕ → Bool) → ((start : ℕ) → (any start ≡ true) ↔ Direct table rows start size)
      → count any (row_offset table rows) ≡ number

-- of each of so many sizes, the starting block's first, each later one twice the one before
abbrev pub FormatCounts : (table : Table) (places rows : ℕ) (counts : List ℕ) → Type 0
FormatCounts table places rows counts =
    (k : ℕ) → k < places
    → SlotsOfSize table rows (2 ^ (table.start_bits + k)) (slice_index counts k)

abbrev pub SlotsCounted : Type 0
SlotsCounted =
    (table : Table) → IsTable table → (rows size : ℕ)
    → SlotsOfSize table rows size (of_size size (sizes table rows))

-- the counts of all sizes up to the largest direct block's, each times its size, are what the rows
-- span
abbrev pub CountsFill : Type 0
CountsFill =
    (table : Table) → IsTable table → (places rows : ℕ)
    → table.direct_bits < table.start_bits + places
    → bytes_of table.start_bits (of_sizes table.start_bits places (sizes table rows))
    ≡ row_offset table rows

-- an indirect block has fewer rows than the one that it stands in, by at least one more than the
-- width's logarithm; so at the fixed table eight levels are all
pub record LevelsEnough : Type 0 where
  pub any : (table : Table) → IsTable table → (levels rows : ℕ)
      → rows ≤ table.direct_bits - table.start_bits + 2 + levels * (table.width_bits + 1)
      → IsNested table (suc levels) rows
  pub eight : IsNested fixed 8 (max_rows fixed)
