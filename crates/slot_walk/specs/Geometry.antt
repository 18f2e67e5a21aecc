-- A table by its numbers, as a caller gives them: its width, its smallest and its largest direct
-- block are powers of two.
use Rattle.std.specs.Prelude.{◌^◌, ◌≤◌, ◌≡◌}
use Rattle.numbers.specs.Numbers.{log2}
use Rattle.table.specs.Table.{Table}
use Rattle.table_laws.specs.Laws.{IsTable}
use Rattle.slot_walk.specs.declared.geometry.Geometry.{Geometry}

abbrev pub table_of : (geometry : Geometry) → Table
table_of geometry = record {
  width_bits = log2 geometry.width;
  start_bits = log2 geometry.starting_block;
  direct_bits = log2 geometry.largest_block;
  heap_bits = geometry.heap_bits;
}

-- what the engine asks of a table; 64 bits hold every sum where heap offsets have no more than 48
pub record IsPermitted (geometry : Geometry) : Type 0 where
  pub width : geometry.width ≡ 2 ^ (table_of geometry).width_bits
  pub start : geometry.starting_block ≡ 2 ^ (table_of geometry).start_bits
  pub largest : geometry.largest_block ≡ 2 ^ (table_of geometry).direct_bits
  pub heap : geometry.heap_bits ≤ 48
  pub direct_in_heap : (table_of geometry).direct_bits ≤ geometry.heap_bits
  pub table : IsTable (table_of geometry)
