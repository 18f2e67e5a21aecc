-- Both engines for the slot of a heap offset, asked alike, and what they agree on.
use Rattle.std.specs.Prelude.{ℕ, ◌≤◌, ◌<◌, ◌≡◌, ◌&&◌, Bool, false, Result, Ok, Err, nat_lt, nat_eq}
use Rattle.std.specs.Prelude.{if◌then◌else◌}
use Rattle.refusals.specs.declared.FormatError.{FormatError}
use Rattle.refusals.specs.declared.FormatError.TheVariants.{OutsideHeap}
use Rattle.table.specs.Table.{Table, heap_space}
use Rattle.table.specs.Slots.{slot_at}
use Rattle.table.specs.declared.Slot.{Slot}
use Rattle.table_laws.specs.Laws.{IsTable}
use Rattle.slot_walk.specs.Search.{counted_slot}

-- the slot of an offset by the descent, refused as by counting
abbrev pub located_slot : (table : Table) (offset : ℕ) → Result Slot FormatError
located_slot table offset =
    if nat_lt offset (heap_space table) then Ok (slot_at table offset) else Err (OutsideHeap offset)

-- whether two answers name a slot, and the same
abbrev pub agreed : (counted located : Result Slot FormatError) → Bool
agreed (Ok one) (Ok other) = nat_eq one.start other.start && nat_eq one.size other.size
agreed (Ok one) (Err refusal) = false
agreed (Err refusal) located = false

-- below the heap's end both engines name a slot, and it is the same; from there on both refuse by
-- the same
pub record Agree (table : Table) (offset : ℕ) : Type 0 where
  pub inside : offset < heap_space table
      → (slot : Slot) × (counted_slot table offset ≡ Ok slot)
      × (located_slot table offset ≡ Ok slot)
  pub outside : heap_space table ≤ offset
      → (counted_slot table offset ≡ Err (OutsideHeap offset))
      × (located_slot table offset ≡ Err (OutsideHeap offset))

abbrev pub EnginesAgree : Type 0
EnginesAgree = (table : Table) → IsTable table → (offset : ℕ) → Agree table offset
