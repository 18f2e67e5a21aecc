-- Reading a managed object in the original's order: filter, ID, undefined root, then the blocks.
-- HDF5 File Format Specification 3.0, III.G, 'Fractal Heap Header': I/O Filters' Encoded Length,
-- Maximum Size of Managed Objects, Address of Root Block, Current # of Rows in Root Indirect Block.
use Rattle.std.specs.Prelude.{ℕ, List, [], ◌==◌, Result, Ok, Err}
use Rattle.refusals.specs.Steps.{◌>>=◌, required}
use Rattle.refusals.specs.declared.FormatError.{FormatError}
use Rattle.refusals.specs.declared.FormatError.TheVariants.{UnsupportedFilteredHeapObject}
use Rattle.ids.specs.Decoded.{decoded_id}
use Rattle.ids.specs.declared.decode.ManagedId.{ManagedId}
use Rattle.reading.specs.Walk.{Taking, unchecked, root_by, root_unchecked}
use Rattle.checked_reading.specs.declared.Checked.{Checked}
use Rattle.checked_reading.specs.declared.path.BlockSite.{BlockSite}
use Rattle.checked_reading.specs.Reading.{checked}
use Rattle.checked_reading.specs.Path.{Block, root_path, stopping_block}
use Rattle.fields.specs.declared.place.Place.{Place}
use Rattle.fractal_heap.specs.declared.header.FractalHeapHeader.{FractalHeapHeader}
use Rattle.fractal_heap.specs.Header.{header_at}

-- so many bytes at the heap offset `target`, from the root block on
abbrev pub root_at : (header : FractalHeapHeader) (file : List ℕ) (target len offset_size : ℕ)
    → Result Place FormatError
root_at header file target len offset_size =
    root_unchecked header.table file header.root_block_address
    header.current_rows_in_root_indirect_block target len offset_size

-- heap offset and length in a managed ID
abbrev pub id_in : (header : FractalHeapHeader) (id : List ℕ) → Result ManagedId FormatError
id_in header id = decoded_id header.table header.max_managed_object_size id

-- the same in a heap whose managed objects are read: it has no filters
abbrev pub sought_by : (header : FractalHeapHeader) (id : List ℕ) → Result ManagedId FormatError
sought_by header id = do
  _ ← required (header.io_filter_encoded_length == 0) UnsupportedFilteredHeapObject
  id_in header id

-- the object of a managed ID in the file, with the blocks on the way to a heap offset and a length
-- taken so
abbrev pub managed_by : (taking : (target len : ℕ) → Taking) (header : FractalHeapHeader)
    (file id : List ℕ) (offset_size : ℕ) → Result Place FormatError
managed_by taking header file id offset_size = do
  object ← sought_by header id
  root_by (taking object.offset object.length) header.table file header.root_block_address
      header.current_rows_in_root_indirect_block object.offset object.length offset_size

-- the same, every block as it stands
abbrev pub managed_unchecked : (header : FractalHeapHeader) (file id : List ℕ) (offset_size : ℕ)
    → Result Place FormatError
managed_unchecked header file id offset_size =
    managed_by (unchecked file) header file id offset_size

-- what the blocks of a heap are tested against, whose header has this address
abbrev pub tests_of : (header : FractalHeapHeader) (heap_header_address : ℕ) → Checked
tests_of header heap_header_address =
    record { flags = header.flags; heap_header_address = heap_header_address }

-- the object of a managed ID in the file, every block tested first
abbrev pub managed_checked : (header : FractalHeapHeader) (heap_header_address : ℕ)
    (file id : List ℕ) (offset_size : ℕ) → Result Place FormatError
managed_checked header heap_header_address file id offset_size =
    managed_by (checked (tests_of header heap_header_address) header.table file offset_size) header
    file id offset_size

-- the blocks that such a read comes to, root first; none in a heap with filters or by an ID that is
-- refused
abbrev pub path_to : (sought : Result ManagedId FormatError) (path : (target : ℕ) → List Block)
    → List Block
path_to (Ok object) path = path object.offset
path_to (Err refused) path = []

abbrev pub managed_path : (header : FractalHeapHeader) (heap_header_address : ℕ)
    (file id : List ℕ) (offset_size : ℕ) → List Block
managed_path header heap_header_address file id offset_size =
    path_to (sought_by header id)
    (λ target. root_path (tests_of header heap_header_address) header.table file
    header.root_block_address header.current_rows_in_root_indirect_block target offset_size)

-- the last of them; where there is none, what refuses the read
abbrev pub stopping_block_by : (header : FractalHeapHeader) (heap_header_address : ℕ)
    (file id : List ℕ) (offset_size : ℕ) → Result BlockSite FormatError
stopping_block_by header heap_header_address file id offset_size = do
  object ← sought_by header id
  stopping_block (tests_of header heap_header_address) header.table file header.root_block_address
      header.current_rows_in_root_indirect_block object.offset offset_size

-- by the header at `pos` of a file of these sizes: a refusal of the header is the answer
abbrev pub id_by : (file : List ℕ) (pos offset_size length_size : ℕ) (id : List ℕ)
    → Result ManagedId FormatError
id_by file pos offset_size length_size id = do
  header ← header_at file pos offset_size length_size
  id_in header id

-- the object's blocks may have addresses of another width
abbrev pub unchecked_by : (file : List ℕ) (pos offset_size length_size : ℕ) (id : List ℕ)
    (block_offset_size : ℕ) → Result Place FormatError
unchecked_by file pos offset_size length_size id block_offset_size = do
  header ← header_at file pos offset_size length_size
  managed_unchecked header file id block_offset_size

-- the same, every block tested first
abbrev pub checked_by : (file : List ℕ) (pos offset_size length_size heap_header_address : ℕ)
    (id : List ℕ) (block_offset_size : ℕ) → Result Place FormatError
checked_by file pos offset_size length_size heap_header_address id block_offset_size = do
  header ← header_at file pos offset_size length_size
  managed_checked header heap_header_address file id block_offset_size

-- the block at which that read stops
abbrev pub stopped_by : (file : List ℕ) (pos offset_size length_size heap_header_address : ℕ)
    (id : List ℕ) → Result BlockSite FormatError
stopped_by file pos offset_size length_size heap_header_address id = do
  header ← header_at file pos offset_size length_size
  stopping_block_by header heap_header_address file id offset_size
