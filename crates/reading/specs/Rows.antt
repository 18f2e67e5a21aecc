-- The rows of an indirect block under the numbers of any header, as the original computes them.
-- HDF5 File Format Specification 3.0, III.G, the doubling table, before its tables. Every sum and
-- product is cut to the largest 64-bit number.
use Rattle.std.specs.Prelude.{ℕ, zero, suc, ◌≡◌, ◌≤◌, ◌+◌, ◌-◌, ◌*◌, ◌^◌, nat_lt, if◌then◌else◌}
use Rattle.numbers.specs.Numbers.{saturated, log2}
use Rattle.reading.specs.declared.rows.DoublingTable.{DoublingTable}

-- the size of a block in a row: rows 0 and 1 have the starting size, each later row twice the one
-- before
abbrev pub block_size : (table : DoublingTable) (row : ℕ) → ℕ
block_size table row =
    if nat_lt (row - 1) 64
    then saturated (table.starting_block_size * 2 ^ (row - 1))
    else 2 ^ 64 - 1

-- how many rows hold direct blocks: the text's max_dblock_rows, with a difference below 0 cut to 0
abbrev pub direct_rows : (table : DoublingTable) → ℕ
direct_rows table = log2 table.max_direct_block_size - log2 table.starting_block_size + 2

-- how many rows a block has that spans this many bytes: the text's nrows, but with the width's
-- logarithm subtracted too (docs/DIFFERENCES.md)
abbrev pub size_to_rows : (table : DoublingTable) (size : ℕ) → ℕ
size_to_rows table size =
    log2 size - (log2 table.starting_block_size + log2 table.table_width) + 1

-- how many bytes the first rows span
unfoldable pub heap_size : (table : DoublingTable) (rows : ℕ) → ℕ
heap_size table zero = 0
heap_size table (suc row) =
    saturated (heap_size table row + saturated (block_size table row * table.table_width))

-- how many bytes a slot of a row spans: a direct block's, or those of the nested block's rows, at
-- least one; in the text the row's block size
abbrev pub slot_size : (table : DoublingTable) (row : ℕ) → ℕ
slot_size table row =
    if nat_lt row (direct_rows table)
    then block_size table row
    else heap_size table (size_to_rows table (block_size table row))

-- what a block of some rows spans is its first row, doubled by each row after it
abbrev pub SpansDouble : Type 0
SpansDouble = (table : DoublingTable) (row : ℕ) → row ≤ 64
    → heap_size table (suc row)
    ≡ saturated (table.starting_block_size * table.table_width * 2 ^ row)
