-- How many bytes an address or a length of a file has. HDF5 File Format Specification 3.0, II.A,
-- the 'Superblock' tables: Size of Offsets, Size of Lengths. The text lists no values: that 2, 4
-- and 8 are taken is our rule (docs/RULES.md).
use Rattle.std.specs.Prelude.{ℕ, Bool, ◌||◌, ◌==◌}
use Rattle.fields.specs.declared.width.Width.{Width}
use Rattle.fields.specs.declared.width.Width.TheVariants.{Two, Four, Eight}

-- the widths that an address or a length may have
abbrev pub legal : (width : ℕ) → Bool
legal width = (width == 2) || ((width == 4) || (width == 8))

-- how many bytes such a width has
abbrev pub byte_count : (width : Width) → ℕ
byte_count Two = 2
byte_count Four = 4
byte_count Eight = 8
