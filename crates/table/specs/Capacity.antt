-- How many object bytes the blocks of a table can hold: HDF5 File Format Specification 3.0, III.G,
-- 'Fractal Heap Direct Block', Object Data.
use Rattle.std.specs.Prelude.{ℕ, zero, suc, ◌-◌, ◌*◌, ◌^◌, nat_le, if◌then◌else◌, List, [], ◌∷◌}
use Rattle.std.specs.Prelude.{◌++◌, take}
use Rattle.numbers.specs.Sums.{sum}
use Rattle.table.specs.Table.{Table, row_bits}

-- a block of a row: a direct one holds what its header of so many bytes leaves, an indirect one
-- what its own rows hold, whose capacities stand in front in the list below
abbrev pub block_capacity : (table : Table) (header row : ℕ) (below : List ℕ) → ℕ
block_capacity table header row below =
    if nat_le (row_bits table row) table.direct_bits
    then 2 ^ row_bits table row - header
    else 2 ^ table.width_bits * sum (take (row - table.width_bits) below)

-- the capacities of a block of each of so many rows
unfoldable pub capacities : (table : Table) (header rows : ℕ) → List ℕ
capacities table header zero = []
capacities table header (suc rows) =
    capacities table header rows
    ++ block_capacity table header rows (capacities table header rows) ∷ []

-- so many rows together
abbrev pub capacity : (table : Table) (header rows : ℕ) → ℕ
capacity table header rows = 2 ^ table.width_bits * sum (capacities table header rows)
