-- The slots of an indirect block from one on, row by row, at the fixed table.
use Rattle.std.specs.Prelude.{ℕ, ◌+◌, ◌-◌, ◌^◌, ◌==◌, if◌then◌else◌}
use Rattle.table.specs.Table.{fixed}
use Rattle.region_indirects.specs.declared.cursor.Slots.{Slots}

-- all slots of a block at a heap offset
abbrev pub block_slots : (offset : ℕ) → Slots
block_slots offset = record { row = 0; left = 2 ^ fixed.width_bits; offset = offset }

-- those of the rows behind the first one, which ends at a heap offset
abbrev pub next_rows : (slots : Slots) (row_end : ℕ) → Slots
next_rows slots row_end = record {
  row = slots.row + 1;
  left = 2 ^ fixed.width_bits;
  offset = row_end;
}

-- those behind the first one, which has `size` bytes
abbrev pub next_slots : (slots : Slots) (size : ℕ) → Slots
next_slots slots size = record {
  row = if slots.left == 1 then slots.row + 1 else slots.row;
  left = if slots.left == 1 then 2 ^ fixed.width_bits else slots.left - 1;
  offset = slots.offset + size;
}
