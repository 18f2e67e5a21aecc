-- The way to an offset's slot: the indirect blocks that hold it, from the root's child down.
use Rattle.std.specs.Prelude.{ℕ, zero, suc, ◌+◌, ◌-◌, ◌*◌, ◌^◌, ◌≤◌, ◌<◌, ◌≡◌, true, false}
use Rattle.std.specs.Prelude.{List, [], ◌∷◌, Option, Result, Ok, Err}
use Rattle.std.specs.Prelude.{nat_le, nat_lt, if◌then◌else◌}
use Rattle.std.specs.List.{slice_get}
use Rattle.refusals.specs.declared.FormatError.{FormatError}
use Rattle.refusals.specs.declared.FormatError.TheVariants.{OutsideHeap}
use Rattle.table.specs.Table.{Table, heap_space, max_rows, row_bits, row_offset, row_of, place_of}
use Rattle.table.specs.Slots.{slot_start, slot_at, slot_end}
use Rattle.table.specs.declared.Slot.{Slot}
use Rattle.table_laws.specs.Laws.{IsTable}
use Rattle.slot_engines.specs.declared.way.EnteredBlock.{EnteredBlock}

-- those in the block at `base`, so many levels deep, the offset lying so many bytes past its start:
-- the one whose slot holds it, and those on the way in there
unfoldable pub way_in : (table : Table) (levels base past : ℕ) → List EnteredBlock
way_in table zero base past = []
way_in table (suc levels) base past =
    elim (nat_le (row_bits table (row_of table past)) table.direct_bits) [
      | true ↦ []
      | false ↦
          record {
            row = (place_of table past).row;
            col = (place_of table past).col;
            start = base + slot_start table past;
          }
          ∷ way_in table levels (base + slot_start table past) (past - slot_start table past)
    ]

-- from the root on; each level leaves fewer bytes, so there are no more than a heap offset has bits
abbrev pub way : (table : Table) (offset : ℕ) → List EnteredBlock
way table offset = way_in table table.heap_bits 0 offset

-- the one of a place on the way, if it is as long
abbrev pub entered_in : (table : Table) (offset place : ℕ)
    → Result (Option EnteredBlock) FormatError
entered_in table offset place =
    if nat_lt offset (heap_space table)
    then Ok (slice_get (way table offset) place)
    else Err (OutsideHeap offset)

-- by the format, in a block of so many rows at `base`: to reach the direct slot that holds the
-- offset these blocks are entered, one after another. It is a slot of a direct row, and none is
-- entered; or the block in a slot of a later row is, which holds the offset and lies inside the
-- block at `base`, and the others are entered in there
pub data Leads (table : Table) (offset : ℕ) :
    (rows base : ℕ) (entered : List EnteredBlock) (slot : Slot) → Type 0 where
  ends : {rows base : ℕ} {slot : Slot} (row col : ℕ) → row < rows
      → row_bits table row ≤ table.direct_bits → col < 2 ^ table.width_bits
      → slot.start ≡ base + row_offset table row + col * 2 ^ row_bits table row
      → slot.size ≡ 2 ^ row_bits table row → slot.start ≤ offset → offset < slot_end slot
      → Leads table offset rows base [] slot
  enters : {rows base : ℕ} {blocks : List EnteredBlock} {slot : Slot} (block : EnteredBlock)
      → block.row < rows → table.direct_bits < row_bits table block.row
      → block.col < 2 ^ table.width_bits
      → block.start ≡ base + row_offset table block.row + block.col * 2 ^ row_bits table block.row
      → block.start ≤ offset → offset < block.start + 2 ^ row_bits table block.row
      → block.start + 2 ^ row_bits table block.row ≤ base + row_offset table rows
      → Leads table offset (block.row - table.width_bits) block.start blocks slot
      → Leads table offset rows base (block ∷ blocks) slot

-- the way from the root on leads to the slot of the offset
abbrev pub WayLeads : (table : Table) (offset : ℕ) → Type 0
WayLeads table offset =
    Leads table offset (max_rows table) 0 (way table offset) (slot_at table offset)

abbrev pub WaysLead : Type 0
WaysLead =
    (table : Table) → IsTable table → (offset : ℕ) → offset < heap_space table
    → WayLeads table offset
