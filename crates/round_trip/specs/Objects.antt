-- Headers of heaps with the fixed geometry, and an object read by the ID that the writer gives it.
use Rattle.std.specs.Prelude.{ℕ, ◌+◌, ◌^◌, List, Result}
use Rattle.refusals.specs.Steps.{◌>>=◌}
use Rattle.refusals.specs.declared.FormatError.{FormatError}
use Rattle.table.specs.Table.{fixed}
use Rattle.table.specs.Sizes.{max_managed}
use Rattle.plan.specs.declared.ManagedPlan.{ManagedPlan}
use Rattle.region_blocks.specs.declared.Site.{Site}
use Rattle.fields.specs.declared.place.Place.{Place}
use Rattle.fractal_heap.specs.declared.header.FractalHeapHeader.{FractalHeapHeader}
use Rattle.fractal_heap.specs.Read.{managed_unchecked}
use Rattle.ids.specs.Written.{managed_id}
use Rattle.ids.specs.Checks.{id_length, id_checked}

-- the header of an unfiltered heap with the fixed geometry, with its root, the root's rows and the
-- largest object that a block holds at this offset size; no reader heeds the other fields
abbrev pub fixed_header : (offset_size root_address root_rows : ℕ) → FractalHeapHeader
fixed_header offset_size root_address root_rows = record {
  heap_id_length = 4097;
  io_filter_encoded_length = 0;
  flags = 253;
  max_managed_object_size = max_managed fixed offset_size;
  next_huge_object_id = 11111;
  btree_huge_objects_address = 0x123456789ABCDEF;
  free_space_managed_blocks = 22222;
  managed_block_free_space_manager_address = 0xFEDCBA9876543210;
  managed_space_in_heap = 33333;
  allocated_managed_space_in_heap = 44444;
  direct_block_allocation_iterator_offset = 55555;
  managed_objects_count = 77777;
  huge_objects_size = 88888;
  huge_objects_count = 99999;
  tiny_objects_size = 111111;
  tiny_objects_count = 222222;
  table = record {
    table_width = 2 ^ fixed.width_bits;
    starting_block_size = 2 ^ fixed.start_bits;
    max_direct_block_size = 2 ^ fixed.direct_bits;
    max_heap_size = fixed.heap_bits;
  };
  start_root_rows = 999;
  root_block_address = root_address;
  current_rows_in_root_indirect_block = root_rows;
  io_filter_information_position = 333333;
  filtered_root_direct_block_size = 444444;
  io_filter_mask = 555555;
}

-- that of the heap of a plan
abbrev pub root_header : (site : Site) (plan : ManagedPlan) → FractalHeapHeader
root_header site plan =
    fixed_header site.offset_size (site.region_address + plan.root_place) plan.root_rows

-- what the file answers for the object of `size` bytes at the heap offset `offset`, by its ID; in
-- eight bytes an ID is refused by 16 alone
abbrev pub object_at : (header : FractalHeapHeader) (file : List ℕ) (offset_size offset size : ℕ)
    → Result Place FormatError
object_at header file offset_size offset size = do
  _ ← id_checked fixed offset size (id_length fixed)
  managed_unchecked header file (managed_id fixed offset size) offset_size
