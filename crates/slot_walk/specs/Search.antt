-- Finding a slot by counting: the first of the plain list that ends past the offset.
use Rattle.std.specs.Prelude.{ℕ, ◌+◌, ◌≤◌, ◌<◌, ◌≡◌, List, [], ◌∷◌, Option, Some, None, Result}
use Rattle.std.specs.Prelude.{nat_lt, if◌then◌else◌}
use Rattle.std.specs.Option.{ok_or}
use Rattle.refusals.specs.declared.FormatError.{FormatError}
use Rattle.refusals.specs.declared.FormatError.TheVariants.{OutsideHeap}
use Rattle.table.specs.Table.{Table, row_offset, max_rows}
use Rattle.table.specs.Slots.{Direct, slot_end}
use Rattle.table.specs.declared.Slot.{Slot}
use Rattle.slot_walk.specs.HeapOrder.{sizes, slots_from, slots}

-- the first of the slots that ends past the offset, if one does
unfoldable pub first_past : (offset : ℕ) (slots : List Slot) → Option Slot
first_past offset [] = None
first_past offset (slot ∷ slots) =
    if nat_lt offset (slot_end slot) then Some slot else first_past offset slots

-- the slot of an offset among those of the largest root, counted out from 0
abbrev pub counted_slot : (table : Table) (offset : ℕ) → Result Slot FormatError
counted_slot table offset =
    ok_or (first_past offset (slots table (max_rows table))) (OutsideHeap offset)

-- the slot is one of the format's, and holds the offset
pub record Holds (table : Table) (offset : ℕ) (slot : Slot) : Type 0 where
  pub direct : Direct table (max_rows table) slot.start slot.size
  pub from : slot.start ≤ offset
  pub to : offset < slot_end slot

-- ---- a walk through a part of the list

-- what is found in the block from `at` to `end`, whatever number of rows fills it
pub record BlockSearched (table : Table) (offset at end : ℕ) (found : Option Slot) : Type 0 where
  pub at_any_rows : (rows : ℕ) → end ≡ at + row_offset table rows
      → found ≡ first_past offset (slots_from at (sizes table rows))
