-- Planning, object by object. Each object goes into the current block if it fits there. Otherwise
-- slots are tried in heap order, each that is too small is passed for good, and the first whose
-- body fits opens. This rule is ours: the HDF5 File Format Specification does not say which block
-- an object goes into.
--
-- An address has offset_size bytes; a state says where planning stands; a run goes through the
-- sizes of objects, one after another.
use Rattle.std.specs.Prelude.{ℕ, zero, suc, ◌+◌, ◌-◌, true, false, nat_le, nat_lt, if◌then◌else◌}
use Rattle.std.specs.Prelude.{List, [], ◌∷◌, Ok}
use Rattle.std.specs.Prelude.{Err}
use Rattle.std.specs.Prelude.{Option, Some, None, Result}
use Rattle.table.specs.Table.{Table, heap_space}
use Rattle.table.specs.Slots.{slot_at, slot_end, entered_bytes}
use Rattle.table.specs.Sizes.{direct_header}
use Rattle.table.specs.declared.Slot.{Slot}
use Rattle.planner.specs.declared.State.{State}

-- of so many slots from the heap offset cursor on the first that has the needed bytes, if the heap
-- has one
unfoldable pub open_in : (table : Table) (slots needed cursor : ℕ) → Option Slot
open_in table zero needed cursor = None
open_in table (suc slots) needed cursor =
    elim (nat_lt cursor (heap_space table)) [
      | true ↦
          elim (nat_le needed (slot_at table cursor).size) [
            | true ↦ Some (slot_at table cursor)
            | false ↦ open_in table slots needed (slot_end (slot_at table cursor))
          ]
      | false ↦ None
    ]

-- the first slot from the heap offset cursor on that has the needed bytes
abbrev pub open_at : (table : Table) (needed cursor : ℕ) → Option Slot
open_at table needed cursor = open_in table (heap_space table - cursor) needed cursor

-- where the current block ends, and the next slot begins
abbrev pub block_end : (state : State) → ℕ
block_end state = state.start + state.size

-- before the first object: no block, so that nothing fits
abbrev pub initial : (table : Table) (offset_size : ℕ) → State
initial table offset_size = record {
  start = 0;
  size = 0;
  fill = direct_header table offset_size;
  count = 0;
  allocated = 0;
  used = 0;
  indirect = 0;
}

-- after an object in the current block
abbrev pub filled : (state : State) (size : ℕ) → State
filled state size = record state { fill = state.fill + size; used = state.used + size }

-- after an object in a new block, in this slot
abbrev pub in_new : (table : Table) (offset_size : ℕ)
    → (state : State) (size : ℕ) (slot : Slot) → State
in_new table offset_size state size slot = record {
  start = slot.start;
  size = slot.size;
  fill = direct_header table offset_size + size;
  count = state.count + 1;
  allocated = state.allocated + slot.size;
  used = state.used + size;
  indirect = state.indirect + entered_bytes table offset_size (block_end state) slot.start;
}

-- an object in a new block, if there is a slot for it: the state after it and its heap offset
abbrev pub opened : (table : Table) (offset_size : ℕ)
    (state : State) (size : ℕ) (slot : Option Slot) → Option (State × ℕ)
opened table offset_size state size (Some slot) =
    Some (in_new table offset_size state size slot, slot.start + direct_header table offset_size)
opened table offset_size state size None = None

-- one object: the state after it and its heap offset, or the heap space ends
abbrev pub step_of : (table : Table) (offset_size : ℕ)
    (state : State) (size : ℕ) → Option (State × ℕ)
step_of table offset_size state size =
    elim (nat_le (state.fill + size) state.size) [
      | true ↦ Some (filled state size, state.start + state.fill)
      | false ↦
          opened table offset_size state size
          (open_at table (direct_header table offset_size + size) (block_end state))
    ]

-- a run from a state on, through the sizes from an index on: the state after all of them, or the
-- index at which the heap space ends
unfoldable pub run_from : (table : Table) (offset_size : ℕ)
    → (state : State) (sizes : List ℕ) (index : ℕ) → Result State ℕ
run_from table offset_size state [] index = Ok state
run_from table offset_size state (size ∷ sizes) index =
    elim (step_of table offset_size state size) [
      | Some (next, offset) ↦ run_from table offset_size next sizes (suc index)
      | None ↦ Err index
    ]

-- the heap offsets of its objects
unfoldable pub offsets_from : (table : Table) (offset_size : ℕ)
    → (state : State) (sizes : List ℕ) → List ℕ
offsets_from table offset_size state [] = []
offsets_from table offset_size state (size ∷ sizes) =
    elim (step_of table offset_size state size) [
      | Some (next, offset) ↦ offset ∷ offsets_from table offset_size next sizes
      | None ↦ []
    ]

-- the start of the block that a step from one state to the next opens, if it opens one, in front of
-- later ones
abbrev pub start_if_new : (state next : State) (later : List ℕ) → List ℕ
start_if_new state next later = if nat_lt state.count next.count then next.start ∷ later else later

-- the heap offsets of the blocks that the run opens
unfoldable pub starts_from : (table : Table) (offset_size : ℕ)
    → (state : State) (sizes : List ℕ) → List ℕ
starts_from table offset_size state [] = []
starts_from table offset_size state (size ∷ sizes) =
    elim (step_of table offset_size state size) [
      | Some (next, offset) ↦ start_if_new state next (starts_from table offset_size next sizes)
      | None ↦ []
    ]

-- the run of a whole list
abbrev pub run : (table : Table) (offset_size : ℕ) (sizes : List ℕ) → Result State ℕ
run table offset_size sizes = run_from table offset_size (initial table offset_size) sizes 0

-- the heap offsets of its objects
abbrev pub plan_offsets : (table : Table) (offset_size : ℕ) (sizes : List ℕ) → List ℕ
plan_offsets table offset_size sizes =
    offsets_from table offset_size (initial table offset_size) sizes

-- the heap offsets of its blocks: without objects there is one, at 0
abbrev pub plan_starts : (table : Table) (offset_size : ℕ) (sizes : List ℕ) → List ℕ
plan_starts table offset_size [] = 0 ∷ []
plan_starts table offset_size (size ∷ sizes) =
    starts_from table offset_size (initial table offset_size) (size ∷ sizes)
