-- What the numbers of a permitted table give.
use Rattle.std.proofs.Common.{ℕ, ◌≡◌, refl, ◌^◌, ◌≤◌, ◌<◌, arith, pow_mono}
use Rattle.std.specs.Int.Count.{count_leading_zeros}
use Rattle.table.specs.Table.{fixed}
use Rattle.table_laws.specs.Laws.{IsTable}
use Rattle.slot_walk.specs.Geometry.{table_of, IsPermitted}
use Rattle.slot_walk.specs.declared.geometry.Geometry.{Geometry}

module _ {g : Geometry} (p : IsPermitted g) where
  -- a size beside the largest direct block's
  pub deep : (size : ℕ) → g.largest_block < size → 2 ^ (table_of g).direct_bits < size
  deep size l = omega (arith, p.largest)

  pub shallow : (size : ℕ) → size ≤ g.largest_block → size ≤ 2 ^ (table_of g).direct_bits
  shallow size l = omega (arith, p.largest)

  -- the heap space is far below 2 ^ 64
  pub in_words : 2 ^ (table_of g).heap_bits ≤ 2 ^ 48
  in_words = pow_mono {i = g.heap_bits} {j = 48} p.heap

abbrev pub given : Geometry
given = record { width = 4; starting_block = 1024; largest_block = 65536; heap_bits = 40 }

pub fixed_table : table_of given ≡ fixed
unfolding count_leading_zeros
fixed_table = refl

pub fixed-is-table : IsTable fixed
fixed-is-table = record { start_in_direct = omega arith; row_in_heap = omega arith; row_in_indirect = omega arith }

pub fixed_permitted : IsPermitted given
unfolding count_leading_zeros
fixed_permitted = record {
  width = refl;
  start = refl;
  largest = refl;
  heap = omega arith;
  direct_in_heap = omega arith;
  table = fixed-is-table;
}
