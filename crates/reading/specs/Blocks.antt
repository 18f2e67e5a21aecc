-- The child of an indirect block that holds a heap offset, as the original seeks it. HDF5 File
-- Format Specification 3.0, III.G, 'Fractal Heap Indirect Block': Child Direct Block #K Address,
-- then Child Indirect Block #N Address, the entries here, row by row. That an undefined address is
-- a block that is not there the text does not say: the original. An address is a place in the file,
-- which is to begin at Base Address (II.A); `offset_size` is Size of Offsets, `target` the wanted
-- heap offset.
use Rattle.std.specs.Prelude.{ℕ, zero, suc, ◌+◌, ◌/◌, List, [], ◌∷◌, ◌++◌, replicate, Bool, not}
use Rattle.std.specs.Prelude.{◌&&◌, nat_le, nat_lt, take, drop, bytes_eq, if◌then◌else◌}
use Rattle.std.specs.Prelude.{Option, Some, None, Result, Ok}
use Rattle.numbers.specs.Numbers.{saturated}
use Rattle.fields.specs.Signatures.{indirect_signature}
use Rattle.fields.specs.Fields.{len_ensured, offset_at}
use Rattle.fields.specs.Undefined.{is_undefined_addr}
use Rattle.refusals.specs.Steps.{◌>>=◌, required}
use Rattle.refusals.specs.declared.FormatError.{FormatError}
use Rattle.refusals.specs.declared.FormatError.TheVariants.{InvalidFractalHeapSignature}
use Rattle.reading.specs.declared.rows.DoublingTable.{DoublingTable}
use Rattle.reading.specs.Rows.{block_size, direct_rows, size_to_rows, slot_size}
use Rattle.reading.specs.declared.children.HeapChild.{HeapChild}
use Rattle.reading.specs.declared.children.HeapChild.TheVariants.{Direct, Indirect}

-- whether a block at this address that spans the offsets from start to end is there and holds the
-- target
abbrev pub holds_offset : (address offset_size start end target : ℕ) → Bool
holds_offset address offset_size start end target =
    nat_le start target && (nat_lt target end && not (is_undefined_addr address offset_size))

-- the child in a slot of a row: the block at this address, which begins at heap offset start
abbrev pub child_of : (table : DoublingTable) (row address start : ℕ) → HeapChild
child_of table row address start =
    if nat_lt row (direct_rows table)
    then Direct address (block_size table row) start
    else Indirect address (size_to_rows table (block_size table row)) start

-- the slots of so many rows from this row on, each by the number of its row
unfoldable pub slot_rows : (table : DoublingTable) (count row : ℕ) → List ℕ
slot_rows table zero row = []
slot_rows table (suc count) row =
    replicate table.table_width row ++ slot_rows table count (row + 1)

-- the child that holds the target, sought slot by slot: the entries of these slots begin at this
-- place of the block, what they span at heap offset start
unfoldable pub child_in_slots : (table : DoublingTable) (block : List ℕ) (offset_size target : ℕ)
    (rows : List ℕ) (place start : ℕ) → Result (Option HeapChild) FormatError
child_in_slots table block offset_size target [] place start = Ok None
child_in_slots table block offset_size target (row ∷ rows) place start = do
  address ← offset_at block place offset_size
  let end = saturated (start + slot_size table row)
  let found = holds_offset address offset_size start end target
  let behind = child_in_slots table block offset_size target rows (place + offset_size) end
  if found then Ok (Some (child_of table row address start)) else behind

-- how many bytes Block Offset has: Maximum Heap Size divided by 8 and rounded up
abbrev pub block_offset_size : (table : DoublingTable) → ℕ
block_offset_size table = (table.max_heap_size + 7) / 8

-- where the entries of an indirect block begin: after Signature, Version, Heap Header Address,
-- Block Offset
abbrev pub entries_place : (table : DoublingTable) (offset_size : ℕ) → ℕ
entries_place table offset_size = 5 + offset_size + block_offset_size table

-- the child in an indirect block of so many rows, which these bytes begin with: Signature FHIB,
-- then the entries; no other field is heeded
abbrev pub child_in : (table : DoublingTable) (block : List ℕ) (rows start target offset_size : ℕ)
    → Result (Option HeapChild) FormatError
child_in table block rows start target offset_size = do
  _ ← len_ensured block 0 4
  _ ← required (bytes_eq (take 4 block) indirect_signature) InvalidFractalHeapSignature
  child_in_slots table block offset_size target (slot_rows table rows 0)
      (entries_place table offset_size) start

-- the same at this address of the file
abbrev pub child_at : (table : DoublingTable) (file : List ℕ)
    (address rows start target offset_size : ℕ) → Result (Option HeapChild) FormatError
child_at table file address rows start target offset_size = do
  _ ← len_ensured file address 4
  child_in table (drop address file) rows start target offset_size
