-- What the laws say of how the reader goes over written indirect blocks: steps towards the theorem,
-- at any table. Nothing here has to be believed; it stands in specs so that wrong statements of
-- these steps can be tried.
use Rattle.std.specs.Prelude.{ℕ, suc, ◌+◌, ◌-◌, ◌*◌, ◌^◌, ◌≤◌, ◌<◌, ◌≡◌, true, List, [], ◌∷◌}
use Rattle.std.specs.Prelude.{length, take, drop, Result, Ok, Err}
use Rattle.fields.specs.Undefined.{undefined_address}
use Rattle.fields.specs.Widths.{legal}
use Rattle.table.specs.Table.{Table, row_bits, row_offset}
use Rattle.table.specs.Slots.{slot_at}
use Rattle.plan.specs.Plans.{sizes_at}
use Rattle.region_blocks.specs.Blocks.{indirect_block}
use Rattle.region_indirects.specs.Walk.{all_slots, block}
use Rattle.region_write.proofs.Starts.{Placed, before, from}
use Rattle.region_write.proofs.Geometry.{BlockAt}
use Rattle.refusals.specs.declared.FormatError.TheVariants.{UnexpectedEof}
use Rattle.numbers.specs.Numbers.{saturated}
use Rattle.reading.specs.declared.rows.DoublingTable.{DoublingTable}
use Rattle.reading.specs.Rows.{slot_size}
use Rattle.fields.specs.declared.place.Place.{Place}
use Rattle.refusals.specs.declared.FormatError.{FormatError}
use Rattle.reading.specs.declared.children.HeapChild.TheVariants.{Direct, Indirect}
use Rattle.reading.specs.Blocks.{child_of}
use Rattle.reading.specs.Walk.{Taking, walk_by}

-- from `position` on the file has these bytes
pub record HasBytes (file : List ℕ) (position : ℕ) (bytes : List ℕ) : Type 0 where
  pub in_file : position + length bytes ≤ length file
  pub bytes_there : take (length bytes) (drop position file) ≡ bytes

-- a header's numbers give the first rows of a table, so many of them
pub record GivesRows (numbers : DoublingTable) (table : Table) (rows : ℕ) : Type 0 where
  pub table_width : numbers.table_width ≡ 2 ^ table.width_bits
  pub heap_bits : numbers.max_heap_size ≡ table.heap_bits
  pub slot_sizes : (row : ℕ) → row < rows → slot_size numbers row ≡ 2 ^ row_bits table row
  pub direct_children : (row address start : ℕ) → row < rows
      → row_bits table row ≤ table.direct_bits
      → child_of numbers row address start ≡ Direct address (2 ^ row_bits table row) start
  pub indirect_children : (row address start : ℕ) → row < rows
      → table.direct_bits < row_bits table row
      → child_of numbers row address start ≡ Indirect address (row - table.width_bits) start

-- of the blocks that begin at `starts`, placed from the heap offset `at` on, the first of them at
-- the address `next`, the one at `start` is still to come, and stands at `address`; those at
-- `later` come after it
pub record IsToCome (table : Table) (start address : ℕ) (later : List ℕ)
    (at : ℕ) (starts : List ℕ) (next : ℕ) : Type 0 where
  pub placed : Placed table at starts
  pub not_passed : at ≤ start
  pub in_list : from start starts ≡ start ∷ later
  pub address_is : next + sizes_at table (before start starts) ≡ address

-- no block that begins at one of `starts` holds the heap offset
pub data NoneHolds (table : Table) (offset : ℕ) : List ℕ → Type 0 where
  no_block : NoneHolds table offset []
  not_in_first : {start : ℕ} {starts : List ℕ}
      → (start ≤ offset → start + (slot_at table start).size ≤ offset)
      → NoneHolds table offset starts → NoneHolds table offset (start ∷ starts)

-- what the reader answers where it comes to no block
abbrev pub missed : (file : List ℕ) (target len : ℕ) → Result Place FormatError
missed file target len = Err (UnexpectedEof (saturated (target + len)) (length file))

-- the blocks that begin at `starts`, placed from the heap offset `at` on, do not hold the heap
-- offset
pub record IsAbsent (table : Table) (offset at : ℕ) (starts : List ℕ) : Type 0 where
  pub placed : Placed table at starts
  pub none_holds : NoneHolds table offset starts

-- the written indirect blocks that the file has, of those that begin at or before the target, are
-- opened where blocks are taken so
pub record Opens (table : Table) (offset_size heap_header : ℕ) (file : List ℕ) (target : ℕ)
    (taking : Taking) : Type 0 where
  pub is_opened : (address rows start : ℕ) (entries : List ℕ) → start ≤ target
      → length entries ≡ rows * 2 ^ table.width_bits * offset_size
      → HasBytes file address (indirect_block table offset_size heap_header start entries)
      → taking.opened address rows start ≡ Ok tt

module _ (table : Table) (offset_size heap_header : ℕ) (numbers : DoublingTable) (row_limit : ℕ)
    (file : List ℕ) (target len : ℕ) (taking : Taking) where
  -- an indirect block of so many rows that begins at the heap offset `base`, over the placed blocks
  -- that begin at `starts`, written to a position, with `next` as the address of the first of these
  -- blocks
  abbrev written_block : (rows base : ℕ) (starts : List ℕ) (position next : ℕ) → List ℕ
  written_block rows base starts position next =
      (block table offset_size heap_header rows base starts position next).bytes

  -- it stands behind the blocks in its slots
  abbrev own_place : (rows base : ℕ) (starts : List ℕ) (position next : ℕ) → ℕ
  own_place rows base starts position next =
      position
      + length (all_slots table offset_size heap_header rows base starts position next).bytes

  -- where the file has such a block, and P holds of what is placed in it, the reader gives from it
  -- on `answer`
  abbrev ReaderGives : (P : (base : ℕ) (starts : List ℕ) (next : ℕ) → Type 0)
      (answer : Result Place FormatError) (rows : ℕ) → Type 0
  ReaderGives P answer rows = (base : ℕ) (starts : List ℕ) (position next depth : ℕ)
      → rows ≤ row_limit → rows < depth → base ≤ target
      → base + row_offset table rows < 2 ^ 64 → BlockAt table rows base
      → P base starts next
      → HasBytes file position (written_block rows base starts position next)
      → position + length (written_block rows base starts position next)
      ≤ undefined_address offset_size
      → walk_by taking numbers file offset_size target len depth
      (own_place rows base starts position next) rows base
      ≡ answer

  -- it comes to the block at `start`, which begins in this one
  abbrev pub Finds : (start address : ℕ) (later : List ℕ) (rows : ℕ) → Type 0
  Finds start address later rows = ReaderGives
      (λ base starts next. IsToCome table start address later base starts next
      × (start < base + row_offset table rows))
      (taking.object address (slot_at table start).size start) rows

  -- it ends with 1, where no block holds the target
  abbrev pub Misses : (rows : ℕ) → Type 0
  Misses rows = ReaderGives
      (λ base starts next. IsAbsent table target base starts) (missed file target len) rows

-- a table whose rows fill the slots of later rows
pub record Doubles (table : Table) : Type 0 where
  pub starts_direct : table.start_bits ≤ table.direct_bits
  pub rows_fill_slots : table.width_bits + table.start_bits ≤ suc table.direct_bits

-- however blocks are taken, if only the written ones are opened: the reader comes to the block that
-- holds the target, at its address
abbrev pub PlacedBlocksFound : Type 0
PlacedBlocksFound = (table : Table) → Doubles table
    → (offset_size heap_header : ℕ) (numbers : DoublingTable) (row_limit : ℕ)
    → GivesRows numbers table row_limit → (file : List ℕ) → legal offset_size ≡ true
    → (target len : ℕ) (taking : Taking) → Opens table offset_size heap_header file target taking
    → (start address : ℕ) (later : List ℕ)
    → start ≤ target → target < start + (slot_at table start).size
    → address < undefined_address offset_size → (rows : ℕ)
    → Finds table offset_size heap_header numbers row_limit file target len taking start address
    later rows

-- and ends with 1 where there is none
abbrev pub OtherOffsetsMissed : Type 0
OtherOffsetsMissed = (table : Table) → Doubles table
    → (offset_size heap_header : ℕ) (numbers : DoublingTable) (row_limit : ℕ)
    → GivesRows numbers table row_limit → (file : List ℕ) → legal offset_size ≡ true
    → (target len : ℕ) (taking : Taking) → Opens table offset_size heap_header file target taking
    → (rows : ℕ)
    → Misses table offset_size heap_header numbers row_limit file target len taking rows
