-- The doubling table of a fractal heap (HDF5 File Format Specification 3.0, III.G, before its
-- tables), by the logarithms of its four numbers. 'Fractal Heap Header': Table Width, Starting
-- Block Size, Maximum Direct Block Size, Maximum Heap Size, which the file too stores as a
-- logarithm.
use Rattle.std.specs.Prelude.{ℕ, zero, suc, ◌+◌, ◌-◌, ◌/◌, ◌^◌, ◌≡◌, refl, nat_le, if◌then◌else◌}
use Rattle.std.specs.Prelude.{Option, Some, None}
use Rattle.table.specs.declared.RowCol.{RowCol}

pub record Table : Type 0 where
  pub width_bits : ℕ
  pub start_bits : ℕ
  pub direct_bits : ℕ
  pub heap_bits : ℕ

-- the table of every heap that we write: Table Width 4, Starting Block Size 1,024, Maximum Direct
-- Block Size 65,536, Maximum Heap Size 2 ^ 40
abbrev pub fixed : Table
fixed = record { width_bits = 2; start_bits = 10; direct_bits = 16; heap_bits = 40 }

-- in bytes: a block of the first rows, and the heap space, below whose end all heap offsets lie
abbrev pub starting_size : (table : Table) → ℕ
starting_size table = 2 ^ table.start_bits

abbrev pub heap_space : (table : Table) → ℕ
heap_space table = 2 ^ table.heap_bits

-- a block of a row has 2 ^ row_bits bytes: rows 0 and 1 the starting size, each later row twice the
-- one before
abbrev pub row_bits : (table : Table) (row : ℕ) → ℕ
row_bits table row = table.start_bits + (row - 1)

-- where a row begins, which is also what the rows before it span
abbrev pub row_offset : (table : Table) (row : ℕ) → ℕ
row_offset table zero = 0
row_offset table (suc before) = 2 ^ (table.start_bits + table.width_bits + before)

-- the last of the rows from 0 to this one that begins at or before the offset
unfoldable pub row_in : (table : Table) (row offset : ℕ) → ℕ
row_in table zero offset = 0
row_in table (suc before) offset =
    if nat_le (row_offset table (suc before)) offset then suc before else row_in table before offset

-- the row of an offset below the heap's size
abbrev pub row_of : (table : Table) (offset : ℕ) → ℕ
row_of table offset = row_in table table.heap_bits offset

-- row and column of an offset
abbrev pub place_of : (table : Table) (offset : ℕ) → RowCol
place_of table offset =
    let row = row_of table offset in
    record { row = row; col = (offset - row_offset table row) / 2 ^ row_bits table row }

-- the most rows that a root has: as many as the heap space holds ('Fractal Heap Header': Starting #
-- of Rows in Root Indirect Block, its value 0). The format does not give their number; it is our
-- rule (docs/RULES.md)
abbrev pub max_rows : (table : Table) → ℕ
max_rows table = table.heap_bits - (table.start_bits + table.width_bits) + 1

-- of so many row counts from this one on the first whose rows span at least so many bytes
unfoldable pub covering_in : (table : Table) (counts rows span : ℕ) → Option ℕ
covering_in table zero rows span = None
covering_in table (suc counts) rows span =
    if nat_le span (row_offset table rows)
    then Some rows
    else covering_in table counts (suc rows) span

-- the fewest rows of a root that span at least so many bytes, if the table has as many
abbrev pub covering : (table : Table) (span : ℕ) → Option ℕ
covering table span = covering_in table (max_rows table) 1 span

-- rows 0 and 1 alike, row 7 the last direct one, 29 rows at most
rows-fixed : (row_bits fixed 0 ≡ 10) × (row_bits fixed 1 ≡ 10) × (row_bits fixed 7 ≡ 16)
    × (max_rows fixed ≡ 29)
rows-fixed = (refl, refl, refl, refl)
