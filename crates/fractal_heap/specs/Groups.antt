-- The fields of the header in a file, in five groups and in header order. HDF5 File Format
-- Specification 3.0, III.G, 'Fractal Heap Header'. Each group begins at `pos`, gives the header
-- that it was given with its own fields in it, and where the next group begins, and makes the
-- original's tests in the original's order; the last one, which the original reads otherwise,
-- makes one. Beside each group is how many bytes it has.
use Rattle.std.specs.Prelude.{ℕ, ◌+◌, ◌*◌, ◌==◌, if◌then◌else◌, List, Ok}
use Rattle.refusals.specs.Steps.{◌>>=◌}
use Rattle.fields.specs.Fields.{len_ensured}
use Rattle.fractal_heap.specs.HeaderReader.{Step, ◌into◌, plain_field, offset_field, length_field}
use Rattle.fractal_heap.specs.HeaderReader.{untested_field}
use Rattle.fractal_heap.specs.declared.header.FractalHeapHeader.{FractalHeapHeader}

-- what stands before the fields whose sizes the file chooses
abbrev pub front_fields : (header : FractalHeapHeader) (file : List ℕ) (pos : ℕ)
    → Step FractalHeapHeader
front_fields header file pos = do
  -- Heap ID Length
  (header, pos) ← plain_field file pos 2 into (λ n. record header { heap_id_length = n })
  -- I/O Filters' Encoded Length
  (header, pos) ← plain_field file pos 2 into (λ n. record header { io_filter_encoded_length = n })
  -- Flags
  (header, pos) ← plain_field file pos 1 into (λ n. record header { flags = n })
  -- Maximum Size of Managed Objects
  plain_field file pos 4 into (λ n. record header { max_managed_object_size = n })

abbrev pub front_size : ℕ
front_size = 9

-- the huge objects' IDs and tree, the managed space, and how many managed objects there are; one
-- test is made for the five fields between the tree's address and the number of objects
abbrev pub object_fields : (header : FractalHeapHeader) (file : List ℕ)
    (pos offset_size length_size : ℕ) → Step FractalHeapHeader
object_fields header file pos offset_size length_size = do
  _ ← len_ensured file pos length_size
  -- Next Huge Object ID
  (header, pos) ← untested_field file pos length_size
      into (λ n. record header { next_huge_object_id = n })
  -- v2 B-tree Address of Huge Objects
  (header, pos) ← offset_field file pos offset_size
      into (λ n. record header { btree_huge_objects_address = n })
  -- the five:
  _ ← len_ensured file pos (4 * length_size + offset_size)
  -- Amount of Free Space in Managed Blocks
  (header, pos) ← untested_field file pos length_size
      into (λ n. record header { free_space_managed_blocks = n })
  -- Address of Managed Block Free Space Manager
  (header, pos) ← untested_field file pos offset_size
      into (λ n. record header { managed_block_free_space_manager_address = n })
  -- Amount of Managed Space in Heap
  (header, pos) ← untested_field file pos length_size
      into (λ n. record header { managed_space_in_heap = n })
  -- Amount of Allocated Managed Space in Heap
  (header, pos) ← untested_field file pos length_size
      into (λ n. record header { allocated_managed_space_in_heap = n })
  -- Offset of Direct Block Allocation Iterator in Managed Space
  (header, pos) ← untested_field file pos length_size
      into (λ n. record header { direct_block_allocation_iterator_offset = n })
  -- Number of Managed Objects in Heap
  length_field file pos length_size into (λ n. record header { managed_objects_count = n })

abbrev pub objects_size : (offset_size length_size : ℕ) → ℕ
objects_size offset_size length_size = 6 * length_size + 2 * offset_size

-- the sizes and numbers of huge and of tiny objects, of which nothing is tested, and the doubling
-- table, with whose tests they are there, too
abbrev pub table_fields : (header : FractalHeapHeader) (file : List ℕ) (pos length_size : ℕ)
    → Step FractalHeapHeader
table_fields header file pos length_size = do
  -- Size of Huge Objects in Heap
  (header, pos) ← untested_field file pos length_size
      into (λ n. record header { huge_objects_size = n })
  -- Number of Huge Objects in Heap
  (header, pos) ← untested_field file pos length_size
      into (λ n. record header { huge_objects_count = n })
  -- Size of Tiny Objects in Heap
  (header, pos) ← untested_field file pos length_size
      into (λ n. record header { tiny_objects_size = n })
  -- Number of Tiny Objects in Heap
  (header, pos) ← untested_field file pos length_size
      into (λ n. record header { tiny_objects_count = n })
  -- Table Width
  (header, pos) ← plain_field file pos 2
      into (λ n. record header { table = record header.table { table_width = n } })
  -- Starting Block Size
  (header, pos) ← length_field file pos length_size
      into (λ n. record header { table = record header.table { starting_block_size = n } })
  -- Maximum Direct Block Size
  (header, pos) ← length_field file pos length_size
      into (λ n. record header { table = record header.table { max_direct_block_size = n } })
  -- Maximum Heap Size
  plain_field file pos 2
      into (λ n. record header { table = record header.table { max_heap_size = n } })

abbrev pub table_size : (length_size : ℕ) → ℕ
table_size length_size = 6 * length_size + 4

-- the root block, and how many rows it has
abbrev pub root_fields : (header : FractalHeapHeader) (file : List ℕ) (pos offset_size : ℕ)
    → Step FractalHeapHeader
root_fields header file pos offset_size = do
  -- Starting # of Rows in Root Indirect Block
  (header, pos) ← plain_field file pos 2 into (λ n. record header { start_root_rows = n })
  -- Address of Root Block
  (header, pos) ← offset_field file pos offset_size
      into (λ n. record header { root_block_address = n })
  -- Current # of Rows in Root Indirect Block
  plain_field file pos 2 into (λ n. record header { current_rows_in_root_indirect_block = n })

abbrev pub root_size : (offset_size : ℕ) → ℕ
root_size offset_size = offset_size + 4

-- how many bytes the filters of a heap take that has some, their information being of so many
abbrev pub filters_size : (filter_length length_size : ℕ) → ℕ
filters_size filter_length length_size = length_size + 4 + filter_length

-- the filters of such a heap; one test is made for all of the group and for Checksum, which stands
-- behind it
abbrev pub filter_fields : (header : FractalHeapHeader) (file : List ℕ) (pos length_size : ℕ)
    → Step FractalHeapHeader
filter_fields header file pos length_size = do
  let filter_length = header.io_filter_encoded_length
  _ ← len_ensured file pos (filters_size filter_length length_size + 4)
  -- Size of Filtered Root Direct Block
  (header, pos) ← untested_field file pos length_size
      into (λ n. record header { filtered_root_direct_block_size = n })
  -- I/O Filter Mask
  (header, pos) ← untested_field file pos 4 into (λ n. record header { io_filter_mask = n })
  -- I/O Filter Information: where it begins
  Ok (record header { io_filter_information_position = pos }, pos + filter_length)

-- the filters, if the heap has some
abbrev pub filters_at : (header : FractalHeapHeader) (file : List ℕ) (pos length_size : ℕ)
    → Step FractalHeapHeader
filters_at header file pos length_size =
    if header.io_filter_encoded_length == 0 then Ok (header, pos)
    else filter_fields header file pos length_size
