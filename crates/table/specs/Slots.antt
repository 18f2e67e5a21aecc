-- The direct slots of the doubling table. A slot of a row whose blocks are no larger than the
-- largest direct block is direct; a slot of a later row is an indirect block, a table in turn,
-- whose rows fill it. HDF5 File Format Specification 3.0, III.G, before its tables; but how many
-- rows fill a slot is our rule, since the text's nrows leaves out the width (docs/DIFFERENCES.md).
use Rattle.std.specs.Prelude.{ℕ, zero, suc, ◌+◌, ◌-◌, ◌*◌, ◌/◌, ◌%◌, ◌^◌, ◌≤◌, ◌<◌, ◌≡◌, true}
use Rattle.std.specs.Prelude.{false, nat_le}
use Rattle.std.specs.Prelude.{if◌then◌else◌}
use Rattle.table.specs.Table.{Table, row_bits, row_offset, row_of}
use Rattle.table.specs.Sizes.{indirect_size}
use Rattle.table.specs.declared.Slot.{Slot}
use Rattle.table.specs.declared.TableSlot.{TableSlot}

-- a direct slot of so many bytes begins at this start, in bytes from the block's own on, in a block
-- of so many rows: a slot of a direct row, or a direct slot of the indirect block in a slot of a
-- later row
pub data Direct (table : Table) : (rows start size : ℕ) → Type 0 where
  own : {rows start size : ℕ} (row col : ℕ) → row < rows → row_bits table row ≤ table.direct_bits
      → col < 2 ^ table.width_bits → start ≡ row_offset table row + col * 2 ^ row_bits table row
      → size ≡ 2 ^ row_bits table row → Direct table rows start size
  inner : {rows start size : ℕ} (row col start' : ℕ) → row < rows
      → table.direct_bits < row_bits table row → col < 2 ^ table.width_bits
      → start ≡ row_offset table row + col * 2 ^ row_bits table row + start'
      → Direct table (row - table.width_bits) start' size → Direct table rows start size

-- where the table's own slot that holds the offset begins, be it direct or indirect
abbrev pub slot_start : (table : Table) (offset : ℕ) → ℕ
slot_start table offset =
    offset / 2 ^ row_bits table (row_of table offset) * 2 ^ row_bits table (row_of table offset)

abbrev pub table_slot : (table : Table) (offset : ℕ) → TableSlot
table_slot table offset = record {
  row = row_of table offset;
  start = slot_start table offset;
  size = 2 ^ row_bits table (row_of table offset);
}

-- the direct slot that holds the offset has 2 ^ slot_bits bytes; an indirect slot is searched in
-- turn, so many levels deep
unfoldable pub slot_bits_in : (table : Table) (levels offset : ℕ) → ℕ
slot_bits_in table zero offset = table.start_bits
slot_bits_in table (suc levels) offset =
    elim (nat_le (row_bits table (row_of table offset)) table.direct_bits) [
      | true ↦ row_bits table (row_of table offset)
      | false ↦ slot_bits_in table levels (offset % 2 ^ row_bits table (row_of table offset))
    ]

abbrev pub slot_bits : (table : Table) (offset : ℕ) → ℕ
slot_bits table offset = slot_bits_in table table.heap_bits offset

-- the direct slot that holds the offset; a slot begins at a multiple of its size
abbrev pub slot_at : (table : Table) (offset : ℕ) → Slot
slot_at table offset = record {
  start = offset / 2 ^ slot_bits table offset * 2 ^ slot_bits table offset;
  size = 2 ^ slot_bits table offset;
}

abbrev pub slot_end : (slot : Slot) → ℕ
slot_end slot = slot.start + slot.size

-- the bytes of the indirect blocks, with addresses of offset_size bytes, that a direct block at
-- base + start opens in the indirect block at base, so many levels deep, where the direct block
-- before it ended at end: those of the indirect slots that hold it and begin at or after end
unfoldable pub entered_bytes_in : (table : Table) (offset_size levels end base start : ℕ) → ℕ
entered_bytes_in table offset_size zero end base start = 0
entered_bytes_in table offset_size (suc levels) end base start =
    elim (nat_le (row_bits table (row_of table start)) table.direct_bits) [
      | true ↦ 0
      | false ↦
          (if nat_le end (base + slot_start table start)
          then indirect_size table offset_size (row_of table start - table.width_bits)
          else 0)
          + entered_bytes_in table offset_size levels end (base + slot_start table start)
          (start - slot_start table start)
    ]

abbrev pub entered_bytes : (table : Table) (offset_size end start : ℕ) → ℕ
entered_bytes table offset_size end start =
    entered_bytes_in table offset_size table.heap_bits end 0 start
