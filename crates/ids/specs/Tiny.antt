-- Tiny objects. HDF5 File Format Specification 3.0, III.G, 'Fractal Heap ID for Tiny Objects',
-- sub-types 1, 'Normal', and 2, 'Extended': Version, Type, and Length, Extended Length, Data. Where
-- the original reads an ID otherwise than the format, its reading stands here
-- (docs/DIFFERENCES.md).
use Rattle.std.specs.Prelude.{ℕ, ◌+◌, ◌*◌, ◌%◌, List, nat_lt, slice_index, if◌then◌else◌, Result}
use Rattle.std.specs.Prelude.{Ok}
use Rattle.fields.specs.Fields.{len_ensured}
use Rattle.refusals.specs.Steps.{◌>>=◌}
use Rattle.refusals.specs.declared.FormatError.{FormatError}
use Rattle.fields.specs.declared.place.Place.{Place}

-- len bytes at start of the ID
abbrev pub tiny_in : (id : List ℕ) (start len : ℕ) → Result Place FormatError
tiny_in id start len = do
  _ ← len_ensured id start len
  Ok (record { position = start; length = len })

-- a length of 12 bits in two bytes; one is added
abbrev pub extended_at : (id : List ℕ) → Result Place FormatError
extended_at id = do
  _ ← len_ensured id 0 2
  tiny_in id 2 (slice_index id 0 % 16 * 256 + slice_index id 1 + 1)

-- a length of 4 bits in one byte; one is added
abbrev pub normal_at : (id : List ℕ) → Result Place FormatError
normal_at id = do
  _ ← len_ensured id 0 1
  tiny_in id 1 (slice_index id 0 % 16 + 1)

-- the tiny object in an ID: extended where Heap ID Length is above 17, in the text above 18
abbrev pub tiny_at : (heap_id_length : ℕ) (id : List ℕ) → Result Place FormatError
tiny_at heap_id_length id = if nat_lt 17 heap_id_length then extended_at id else normal_at id
