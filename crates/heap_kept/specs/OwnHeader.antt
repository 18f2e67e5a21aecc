-- The header of a plan itself: every field as the heap of the plan has it (docs/RULES.md, 'What
-- comes back'). HDF5 File Format Specification 3.0, III.G, 'Fractal Heap Header'.
use Rattle.std.specs.Prelude.{ℕ, ◌+◌, ◌^◌, ◌≤◌, ◌<◌, ◌≡◌, List, length, take, drop, Ok}
use Rattle.fields.specs.Undefined.{undefined_address}
use Rattle.table.specs.Table.{fixed}
use Rattle.table.specs.Sizes.{max_managed}
use Rattle.plan.specs.declared.ManagedPlan.{ManagedPlan}
use Rattle.region_blocks.specs.declared.Site.{Site}
use Rattle.fractal_heap.specs.declared.header.FractalHeapHeader.{FractalHeapHeader}
use Rattle.fractal_heap.specs.Header.{header_numbers}
use Rattle.fractal_heap.specs.Spelling.{header_spelled}
use Rattle.fractal_heap.specs.Writing.{header_length, header_checked}
use Rattle.heap_kept.specs.HeapKept.{Call, WriterAccepts, IsHeaderOf, ObjectIsManaged}
use Rattle.heap_kept.specs.FromBytes.{HoldsHeader}

-- the header of a heap with this plan at this site, with so many objects and nothing else: IDs of
-- eight bytes, no filters, checksums in the direct blocks (the flag of value 2), no huge and no
-- tiny objects, and so no index of huge ones, no manager of free space, the plan's totals and the
-- fixed geometry. With how many rows the root began no reader heeds: with one
abbrev pub planned_header : (site : Site) (plan : ManagedPlan) (objects : ℕ) → FractalHeapHeader
planned_header site plan objects = record {
  heap_id_length = 8;
  io_filter_encoded_length = 0;
  flags = 2;
  max_managed_object_size = max_managed fixed site.offset_size;
  next_huge_object_id = 0;
  btree_huge_objects_address = undefined_address site.offset_size;
  free_space_managed_blocks = plan.free_space;
  managed_block_free_space_manager_address = undefined_address site.offset_size;
  managed_space_in_heap = plan.managed_space;
  allocated_managed_space_in_heap = plan.allocated_space;
  direct_block_allocation_iterator_offset = plan.allocation_iterator;
  managed_objects_count = objects;
  huge_objects_size = 0;
  huge_objects_count = 0;
  tiny_objects_size = 0;
  tiny_objects_count = 0;
  table = record {
    table_width = 2 ^ fixed.width_bits;
    starting_block_size = 2 ^ fixed.start_bits;
    max_direct_block_size = 2 ^ fixed.direct_bits;
    max_heap_size = fixed.heap_bits;
  };
  start_root_rows = 1;
  root_block_address = site.region_address + plan.root_place;
  current_rows_in_root_indirect_block = plan.root_rows;
  io_filter_information_position = 0;
  filtered_root_direct_block_size = 0;
  io_filter_mask = 0;
}

-- that of a call's plan
abbrev pub own_header : (call : Call) (plan : ManagedPlan) → FractalHeapHeader
own_header call plan = planned_header call.site plan (length call.sizes)

-- it is a header of the plan under which every object is managed, and at a length size of eight
-- bytes the header writer accepts it wherever it has room; so every file that has its bytes at a
-- place holds it there
pub record OwnHeaderAccepted (call : Call) (plan : ManagedPlan) : Type 0 where
  pub is_header : IsHeaderOf (own_header call plan) call plan
  pub all_managed : (i : ℕ) → i < length call.sizes
      → ObjectIsManaged (own_header call plan) call i
  pub writer_accepts : (lent : ℕ) → header_length call.site.offset_size 8 ≤ lent
      → header_checked (header_numbers (own_header call plan)) call.site.offset_size 8 lent ≡ Ok tt
  pub is_held : (file : List ℕ) (at : ℕ)
      → take (header_length call.site.offset_size 8) (drop at file)
      ≡ header_spelled (own_header call plan) call.site.offset_size 8
      → HoldsHeader file at (own_header call plan) call.site.offset_size 8

-- of every call that the writer of regions accepts. A list of sizes that is lent has fewer than
-- 2^64 places; where the objects are empty, planning has no bound for their number
abbrev pub OwnHeadersAreAccepted : Type 0
OwnHeadersAreAccepted = (call : Call) (plan : ManagedPlan) → WriterAccepts call plan
    → length call.sizes < 2 ^ 64
    → OwnHeaderAccepted call plan
