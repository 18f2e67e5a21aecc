-- What holds of every doubling table: its direct slots fill the heap space in order, they are those
-- of the format, and their bodies are counted.
use Rattle.std.specs.Prelude.{ℕ, ◌+◌, ◌*◌, ◌≤◌, ◌<◌, ◌≡◌, ◌↔◌, suc, Bool, true}
use Rattle.table.specs.Table.{Table, heap_space, row_offset, max_rows}
use Rattle.table.specs.Slots.{Direct, slot_at, slot_end}
use Rattle.table.specs.Capacity.{capacity}
use Rattle.table_laws.specs.Count.{count, InBody}

-- what a table has to be: a starting block is no larger than the largest direct one, a root's first
-- row fits the heap space, and an indirect block has no fewer bytes than the first row of its own
-- table
pub record IsTable (table : Table) : Type 0 where
  pub start_in_direct : table.start_bits ≤ table.direct_bits
  pub row_in_heap : table.start_bits + table.width_bits ≤ table.heap_bits
  pub row_in_indirect : table.width_bits + table.start_bits ≤ suc table.direct_bits

-- the direct slots, one after another
pub record SlotsInOrder (table : Table) : Type 0 where
  -- an offset lies in its slot
  pub in_its_slot : (x : ℕ) → x < heap_space table
      → ((slot_at table x).start ≤ x) × (x < slot_end (slot_at table x))
  -- and in no other: every offset of a slot has that slot
  pub in_no_other : (x y : ℕ) → x < heap_space table → (slot_at table x).start ≤ y
      → y < slot_end (slot_at table x) → slot_at table y ≡ slot_at table x
  -- a slot begins at a multiple of its size
  pub aligned : (x : ℕ) → x < heap_space table
      → (k : ℕ) × ((slot_at table x).start ≡ k * (slot_at table x).size)
  -- it ends in the heap space
  pub ends_in_heap : (x : ℕ) → x < heap_space table → slot_end (slot_at table x) ≤ heap_space table
  -- the next begins where it ends
  pub next_at_end : (x : ℕ) → x < heap_space table → slot_end (slot_at table x) < heap_space table
      → (slot_at table (slot_end (slot_at table x))).start ≡ slot_end (slot_at table x)
  -- none begins inside another
  pub none_inside : (x y : ℕ) → x < heap_space table → y < heap_space table
      → (slot_at table x).start < (slot_at table y).start
      → slot_end (slot_at table x) ≤ (slot_at table y).start

-- it needs of the table only that the starting block is no larger than the largest direct one and
-- than the heap space
abbrev pub SlotsOrdered : Type 0
SlotsOrdered =
    (table : Table) → table.start_bits ≤ table.direct_bits → table.start_bits ≤ table.heap_bits
    → SlotsInOrder table

-- a slot by the format's rule is the one that is found at its start, and the other way round
abbrev pub SlotsOfFormat : Type 0
SlotsOfFormat =
    (table : Table) → IsTable table → (start size : ℕ)
    → Direct table (max_rows table) start size ↔
    ((start < heap_space table) × (slot_at table start ≡ record { start = start; size = size }))

-- so many rows hold as many object bytes, past headers of so many bytes, as there are heap offsets
-- in the bodies of their slots: a test that passes just these passes as many, and there is one
pub record BodiesCounted (table : Table) (header rows : ℕ) : Type 0 where
  pub in_rows : (x : ℕ) → InBody table header rows x → x < row_offset table rows
  pub test : ℕ → Bool
  pub passes_bodies : (x : ℕ) → (test x ≡ true) ↔ InBody table header rows x
  pub any_as_many : (other : ℕ → Bool) → ((x : ℕ) → (other x ≡ true) ↔ InBody table header rows x)
      → count other (row_offset table rows) ≡ capacity table header rows

abbrev pub BodiesHeld : Type 0
BodiesHeld =
    (table : Table) → IsTable table → (header rows : ℕ) → 0 < rows
    → row_offset table rows ≤ heap_space table → BodiesCounted table header rows
