-- How much the writer is lent.
use Rattle.std.specs.Prelude.{ℕ, List, length}
use Rattle.fractal_heap_write.specs.declared.checks.Lent.{Lent}

-- two lists, the objects' bytes, the bytes for the region
abbrev pub lent_for : (offsets blocks objects bytes : List ℕ) → Lent
lent_for offsets blocks objects bytes = record {
  offset_places = length offsets;
  block_places = length blocks;
  object_bytes = length objects;
  region_bytes = length bytes;
}
