-- The direct slots of a block in heap order, as a plain list, and how many there are of each size.
-- Rows follow each other, so do the slots of a row, and an indirect slot is opened where it stands:
-- HDF5 File Format Specification 3.0, III.G, before its tables.
use Rattle.std.specs.Prelude.{ℕ, zero, suc, ◌+◌, ◌-◌, ◌*◌, ◌^◌, ◌<◌, ◌≡◌, List, [], ◌∷◌, ◌++◌}
use Rattle.std.specs.Prelude.{nat_le, nat_eq, if◌then◌else◌}
use Rattle.table.specs.Table.{Table, row_bits}
use Rattle.table.specs.declared.Slot.{Slot}

-- the same list so many times
unfoldable pub copies : (times : ℕ) (list : List ℕ) → List ℕ
copies zero list = []
copies (suc times) list = list ++ copies times list

-- the sizes of the direct slots in one slot of a row: its own, or those of the indirect block that
-- fills it, of which `inside rows` gives those in so many rows
abbrev pub slot_sizes : (table : Table) (inside : ℕ → List ℕ) (row : ℕ) → List ℕ
slot_sizes table inside row =
    if nat_le (row_bits table row) table.direct_bits
    then 2 ^ row_bits table row ∷ []
    else inside (row - table.width_bits)

-- those in so many rows from this one on
unfoldable pub row_sizes : (table : Table) (inside : ℕ → List ℕ) (row rows : ℕ) → List ℕ
row_sizes table inside row zero = []
row_sizes table inside row (suc rows) =
    copies (2 ^ table.width_bits) (slot_sizes table inside row)
    ++ row_sizes table inside (suc row) rows

-- those in a block of so many rows, where indirect blocks are opened so many levels deep, itself
-- the first
unfoldable pub block_sizes : (table : Table) (levels rows : ℕ) → List ℕ
block_sizes table zero rows = []
block_sizes table (suc levels) rows = row_sizes table (block_sizes table levels) 0 rows

-- those in a block of so many rows: an indirect block has fewer rows than the one that it stands
-- in, so as many levels are all
abbrev pub sizes : (table : Table) (rows : ℕ) → List ℕ
sizes table rows = block_sizes table rows rows

-- slots of these sizes from an offset on, each where the one before ends
unfoldable pub slots_from : (start : ℕ) (sizes : List ℕ) → List Slot
slots_from start [] = []
slots_from start (size ∷ sizes) =
    record { start = start; size = size } ∷ slots_from (start + size) sizes

-- the direct slots of so many rows in heap order
abbrev pub slots : (table : Table) (rows : ℕ) → List Slot
slots table rows = slots_from 0 (sizes table rows)

-- the first begins at `start`, each later one where the one before ends, the last ends at `end`,
-- and none is empty: so each stands there once, in ascending order and without a gap
pub data Chain : (start : ℕ) (slots : List Slot) (end : ℕ) → Type 0 where
  none : {start end : ℕ} → start ≡ end → Chain start [] end
  more : {start end : ℕ} {slot : Slot} {slots : List Slot} → slot.start ≡ start → 0 < slot.size
      → Chain (slot.start + slot.size) slots end → Chain start (slot ∷ slots) end

-- how many of the sizes are this one
unfoldable pub of_size : (size : ℕ) (sizes : List ℕ) → ℕ
of_size size [] = 0
of_size size (one ∷ sizes) =
    if nat_eq one size then suc (of_size size sizes) else of_size size sizes

-- and of each of so many, the first of 2 ^ bits bytes, each later one twice the one before
unfoldable pub of_sizes : (bits places : ℕ) (sizes : List ℕ) → List ℕ
of_sizes bits zero sizes = []
of_sizes bits (suc places) sizes = of_size (2 ^ bits) sizes ∷ of_sizes (suc bits) places sizes

-- the bytes of so many slots of each size
unfoldable pub bytes_of : (bits : ℕ) (counts : List ℕ) → ℕ
bytes_of bits [] = 0
bytes_of bits (count ∷ counts) = count * 2 ^ bits + bytes_of (suc bits) counts
