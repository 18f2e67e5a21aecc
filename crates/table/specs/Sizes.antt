-- The sizes of block headers and of indirect blocks in a file with addresses of offset_size bytes,
-- unfiltered, with checksummed direct blocks (bit 1 of Flags in 'Fractal Heap Header'). HDF5 File
-- Format Specification 3.0, III.G, 'Fractal Heap Direct Block', 'Fractal Heap Indirect Block'.
use Rattle.std.specs.Prelude.{ℕ, ◌+◌, ◌-◌, ◌*◌, ◌/◌, ◌^◌, ◌≡◌, refl}
use Rattle.table.specs.Table.{Table, fixed}

-- Block Offset takes as many bytes as the bits of Maximum Heap Size need
abbrev pub offset_bytes : (table : Table) → ℕ
offset_bytes table = (table.heap_bits + 7) / 8

-- Signature, Version, Heap Header Address, Block Offset, Checksum
abbrev pub direct_header : (table : Table) (offset_size : ℕ) → ℕ
direct_header table offset_size = 4 + 1 + offset_size + offset_bytes table + 4

-- the largest object that a direct block holds ('Fractal Heap Header': Maximum Direct Block Size)
abbrev pub max_managed : (table : Table) (offset_size : ℕ) → ℕ
max_managed table offset_size = 2 ^ table.direct_bits - direct_header table offset_size

-- Signature, Version, Heap Header Address, Block Offset, one child's address for each slot of the
-- rows, Checksum
abbrev pub indirect_size : (table : Table) (offset_size rows : ℕ) → ℕ
indirect_size table offset_size rows =
    4 + 1 + offset_size + offset_bytes table + rows * 2 ^ table.width_bits * offset_size + 4

sizes-fixed : (direct_header fixed 8 ≡ 22) × (max_managed fixed 8 ≡ 65514)
    × (indirect_size fixed 8 3 ≡ 118)
sizes-fixed = (refl, refl, refl)
