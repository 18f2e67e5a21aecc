-- The tests of one block of a heap, in their order. HDF5 File Format Specification 3.0, III.G,
-- 'Fractal Heap Direct Block' and 'Fractal Heap Indirect Block', the fields that are named here;
-- 'Fractal Heap Header', Flags. The refusals and their order are our rule (docs/RULES.md). `tests`
-- is what a heap's blocks are tested against, as its header says, `table` the doubling table in it,
-- `offset_size` Size of Offsets; `block` is the bytes of a block, `start` the heap offset at which
-- it is to begin.
use Rattle.std.specs.Prelude.{ℕ, ◌+◌, ◌-◌, ◌*◌, ◌/◌, ◌%◌, ◌==◌, min, List, length, take, drop}
use Rattle.std.specs.Prelude.{slice_index, bytes_eq, Bool, nat_le, if◌then◌else◌, Result, Ok}
use Rattle.refusals.specs.Steps.{◌>>=◌, required}
use Rattle.refusals.specs.declared.FormatError.{FormatError}
use Rattle.refusals.specs.declared.FormatError.TheVariants.{UnexpectedEof, InvalidOffsetSize}
use Rattle.refusals.specs.declared.FormatError.TheVariants.{InvalidFractalHeapSignature}
use Rattle.refusals.specs.declared.FormatError.TheVariants.{InvalidFractalHeapVersion}
use Rattle.refusals.specs.declared.FormatError.TheVariants.{BlockChecksumMismatch, ForeignBlock}
use Rattle.fields.specs.LittleEndian.{le_at}
use Rattle.fields.specs.Signatures.{direct_signature, indirect_signature}
use Rattle.fields.specs.Widths.{legal}
use Rattle.fields.specs.Fields.{len_ensured}
use Rattle.checksum.specs.Lookup3.{hashlittle}
use Rattle.checksum.specs.Zeroed.{zeroed}
use Rattle.reading.specs.declared.rows.DoublingTable.{DoublingTable}
use Rattle.reading.specs.Blocks.{block_offset_size, entries_place}
use Rattle.checked_reading.specs.declared.Checked.{Checked}

-- whether direct blocks have a checksum: bit 1 of Flags, the one of value 2
abbrev pub has_checksum : (flags : ℕ) → Bool
has_checksum flags = flags / 2 % 2 == 1

-- Block Offset, of more than eight bytes the first eight
abbrev pub stored_offset : (table : DoublingTable) (offset_size : ℕ) (block : List ℕ) → ℕ
stored_offset table offset_size block =
    le_at block (5 + offset_size) (min (block_offset_size table) 8)

-- Heap Header Address or Block Offset is the one wanted: both as numbers, whether or not the wanted
-- one fits the field
abbrev pub same_checked : (stored wanted : ℕ) → Result (Unit {0}) FormatError
same_checked stored wanted = required (stored == wanted) (ForeignBlock stored wanted)

-- Checksum is the one computed
abbrev pub block_sum_checked : (stored computed : ℕ) → Result (Unit {0}) FormatError
block_sum_checked stored computed =
    required (stored == computed) (BlockChecksumMismatch stored computed)

-- how a block begins: Signature, Version, Heap Header Address, Block Offset
unfoldable pub head_checked : (tests : Checked) (table : DoublingTable) (offset_size : ℕ)
    (signature block : List ℕ) (start : ℕ) → Result (Unit {0}) FormatError
head_checked tests table offset_size signature block start = do
  let version = slice_index block 4
  _ ← required (bytes_eq (take 4 block) signature) InvalidFractalHeapSignature
  _ ← required (version == 0) (InvalidFractalHeapVersion version)
  _ ← same_checked (le_at block 5 offset_size) tests.heap_header_address
  same_checked (stored_offset table offset_size block) start

-- ---- an indirect block

-- how many bytes one of so many rows has: before its entries, the entries, Checksum
abbrev pub indirect_size : (table : DoublingTable) (offset_size rows : ℕ) → ℕ
indirect_size table offset_size rows =
    entries_place table offset_size + rows * table.table_width * offset_size + 4

-- by its bytes: Checksum, the last four, is that of all before it
unfoldable pub indirect_in : (tests : Checked) (table : DoublingTable) (offset_size : ℕ)
    (block : List ℕ) (start : ℕ) → Result (Unit {0}) FormatError
indirect_in tests table offset_size block start = do
  let sum_place = length block - 4
  _ ← head_checked tests table offset_size indirect_signature block start
  block_sum_checked (le_at block sum_place 4) (hashlittle (take sum_place block))

-- the one of so many rows at this address of the file
unfoldable pub indirect_checked : (tests : Checked) (table : DoublingTable) (file : List ℕ)
    (offset_size address rows start : ℕ) → Result (Unit {0}) FormatError
indirect_checked tests table file offset_size address rows start = do
  let size = indirect_size table offset_size rows
  _ ← required (legal offset_size) (InvalidOffsetSize offset_size)
  _ ← len_ensured file address size
  indirect_in tests table offset_size (take size (drop address file)) start

-- ---- a direct block

-- how many bytes its header has, all fields before Object Data: Checksum, if direct blocks have it,
-- stands where an indirect block's entries begin
abbrev pub direct_header_size : (tests : Checked) (table : DoublingTable) (offset_size : ℕ) → ℕ
direct_header_size tests table offset_size =
    if has_checksum tests.flags
    then entries_place table offset_size + 4
    else entries_place table offset_size

-- it has room for its header
abbrev pub room_checked : (header_size size : ℕ) → Result (Unit {0}) FormatError
room_checked header_size size =
    required (nat_le header_size size) (UnexpectedEof header_size size)

-- by its bytes: Checksum is that of all of them with its own as zero, which the text does not say:
-- HDF5 (docs/RULES.md)
unfoldable pub direct_in : (tests : Checked) (table : DoublingTable) (offset_size : ℕ)
    (block : List ℕ) (start : ℕ) → Result (Unit {0}) FormatError
direct_in tests table offset_size block start = do
  let place = entries_place table offset_size
  _ ← head_checked tests table offset_size direct_signature block start
  if has_checksum tests.flags
      then block_sum_checked (le_at block place 4) (hashlittle (zeroed block place))
      else Ok tt

-- the one of this size at this address of the file: its room is tested before its end
unfoldable pub direct_checked : (tests : Checked) (table : DoublingTable) (file : List ℕ)
    (offset_size address size start : ℕ) → Result (Unit {0}) FormatError
direct_checked tests table file offset_size address size start = do
  _ ← required (legal offset_size) (InvalidOffsetSize offset_size)
  _ ← room_checked (direct_header_size tests table offset_size) size
  _ ← len_ensured file address size
  direct_in tests table offset_size (take size (drop address file)) start
