-- What the walks ask of their arguments, so that they stay in the region and within 64 bits, and
-- what they give.
use Rattle.std.specs.Prelude.{ℕ, ◌+◌, ◌-◌, ◌^◌, ◌≤◌, ◌<◌, ◌≡◌, if◌then◌else◌, List, [], ◌++◌}
use Rattle.std.specs.Prelude.{length, drop, replicate, sum_by, nat_lt, Option, Some, None}
use Rattle.fields.specs.LittleEndian.{le, put}
use Rattle.table.specs.Table.{fixed, row_bits}
use Rattle.region_indirects.specs.declared.cursor.Cursor.{Cursor}
use Rattle.region_indirects.specs.declared.cursor.Slots.{Slots}
use Rattle.region_indirects.specs.declared.Walk.{Walk}
use Rattle.region_indirects.specs.declared.Output.{Output}
use Rattle.region_indirects.specs.Walk.{Walked, rows_of_slots, slot, slots, smaller, block}

-- the rows of these slots, the last of a block of so many rows
abbrev pub rows_left : (rows : ℕ) (left : Slots) → List ℕ
rows_left rows left =
    let next = left.row + 1 in
    if nat_lt left.row rows
    then replicate left.left left.row ++ rows_of_slots fixed (rows - next) next
    else []

-- how many bytes these slots have together
abbrev pub span_left : (rows : ℕ) (left : Slots) → ℕ
span_left rows left = sum_by (λ row. 2 ^ row_bits fixed row) (rows_left rows left)

-- the walks' outcomes, where the region's own bytes begin at the region's address

-- of a block of so many rows at a heap offset
abbrev pub block_of : (walk : Walk) (rows offset : ℕ) (cursor : Cursor) → Walked
block_of walk rows offset cursor =
    let site = walk.site in
    block fixed site.offset_size site.heap_header_address rows offset
    (drop cursor.index walk.starts.now) (site.region_address + cursor.place) cursor.next

-- of the last slots of a block of so many rows
abbrev pub slots_of : (walk : Walk) (rows : ℕ) (left : Slots) (cursor : Cursor) → Walked
slots_of walk rows left cursor =
    let site = walk.site in
    let offset_size = site.offset_size in
    let header = site.heap_header_address in
    let inner = smaller fixed offset_size header rows in
    slots fixed offset_size header inner (rows_left rows left) left.offset
    (drop cursor.index walk.starts.now) (site.region_address + cursor.place) cursor.next

-- of a slot of a row at a heap offset
abbrev pub slot_of : (walk : Walk) (row offset : ℕ) (cursor : Cursor) → Walked
slot_of walk row offset cursor =
    let site = walk.site in
    let offset_size = site.offset_size in
    let header = site.heap_header_address in
    slot fixed offset_size header (block fixed offset_size header) row offset
    (drop cursor.index walk.starts.now) (site.region_address + cursor.place) cursor.next

-- an outcome of a walk from where `out` stands, and so many bytes `behind` it, fit into the region
pub record Fits (walk : Walk) (out : Output) (outcome : Walked) (behind : ℕ) : Type 0 where
  pub narrow : walk.site.offset_size ≤ 8
  pub index_in_starts : out.cursor.index ≤ length walk.starts.now
  pub room : out.cursor.place + length outcome.bytes + behind ≤ length out.region.now
  pub addresses_fit : walk.site.region_address + length out.region.now < 2 ^ 64
  pub next_fits : outcome.next < 2 ^ 64

-- the cursor `new` stands where an outcome of a walk from the cursor `old` on ends
pub record Moved (walk : Walk) (old : Cursor) (outcome : Walked) (new : Cursor) : Type 0 where
  pub index_in_starts : new.index ≤ length walk.starts.now
  pub rest : drop new.index walk.starts.now ≡ outcome.rest
  pub place : new.place ≡ old.place + length outcome.bytes
  pub next : new.next ≡ outcome.next

-- the bytes of an entry: an address, or the undefined one
abbrev pub entry_bytes : (offset_size : ℕ) (entry : Option ℕ) → List ℕ
entry_bytes offset_size (Some address) = le offset_size address
entry_bytes offset_size None = replicate offset_size 0xFF

-- an outcome was written from where `old` stood, and to it leads this `child`
pub record Wrote (walk : Walk) (old : Output) (outcome : Walked) (child : Option ℕ) (new : Output)
    : Type 0 where
  pub bytes : new.region.now ≡ put old.region.now old.cursor.place outcome.bytes
  pub entry : entry_bytes walk.site.offset_size child ≡ outcome.entries
  pub moved : Moved walk old.cursor outcome new.cursor

-- the outcome of some slots was written: their blocks, and then their entries, `from` bytes into
-- the block behind them
pub record WroteSlots (walk : Walk) (old : Output) (outcome : Walked) (from : ℕ) (new : Output)
    : Type 0 where
  pub bytes : new.region.now
      ≡ put (put old.region.now old.cursor.place outcome.bytes) (new.cursor.place + from)
      outcome.entries
  pub moved : Moved walk old.cursor outcome new.cursor

-- ---- of a block, some slots, and one

-- a block of so many rows at a heap offset fits
pub record BlockFits (walk : Walk) (out : Output) (rows offset : ℕ) : Type 0 where
  pub fits : Fits walk out (block_of walk rows offset out.cursor) 0

-- it was written, with all below it, at this address
pub record BlockWritten (walk : Walk) (old : Output) (rows offset address : ℕ) (new : Output)
    : Type 0 where
  pub wrote : Wrote walk old (block_of walk rows offset old.cursor) (Some address) new

-- the blocks of the last slots of a block of so many rows fit, and behind these their entries,
-- `from` bytes into a block
pub record SlotsFit (walk : Walk) (out : Output) (rows : ℕ) (left : Slots) (from : ℕ)
    : Type 0 where
  pub fits : Fits walk out (slots_of walk rows left out.cursor)
      (from + length (slots_of walk rows left out.cursor).entries)

-- both were written
pub record SlotsWritten (walk : Walk) (old : Output) (rows : ℕ) (left : Slots) (from : ℕ)
    (new : Output) : Type 0 where
  pub wrote : WroteSlots walk old (slots_of walk rows left old.cursor) from new

-- the blocks of a slot of a row fit
pub record SlotFits (walk : Walk) (out : Output) (row offset : ℕ) : Type 0 where
  pub fits : Fits walk out (slot_of walk row offset out.cursor) 0

-- they were written, and this is its entry
pub record SlotWritten (walk : Walk) (old : Output) (row offset : ℕ) (entry : Option ℕ)
    (new : Output) : Type 0 where
  pub wrote : Wrote walk old (slot_of walk row offset old.cursor) entry new
