-- What holds of a read by an ID that tests every block on its way; `result` is what it answers.
use Rattle.std.specs.Prelude.{ℕ, ◌<◌, ◌≡◌, List, length, true, false, IfOk, IsSomeAnd, Result, Ok}
use Rattle.std.specs.Prelude.{Err}
use Rattle.fields.specs.declared.place.Place.{Place}
use Rattle.fields.specs.Undefined.{is_undefined_addr}
use Rattle.fields.specs.Widths.{legal}
use Rattle.ids.specs.declared.decode.ManagedId.{ManagedId}
use Rattle.refusals.specs.declared.FormatError.{FormatError}
use Rattle.refusals.specs.declared.FormatError.TheVariants.{UnexpectedEof, InvalidOffsetSize}
use Rattle.refusals.specs.declared.FormatError.TheVariants.{UnsupportedFilteredHeapObject}
use Rattle.checked_reading.specs.declared.path.BlockSite.{BlockSite}
use Rattle.checked_reading.specs.Path.{last_of}
use Rattle.checked_reading.specs.Laws.{SameBlocks, object_of, InBlock}
use Rattle.fractal_heap.specs.declared.header.FractalHeapHeader.{FractalHeapHeader}
use Rattle.fractal_heap.specs.Read.{id_in, sought_by, managed_unchecked, managed_checked}
use Rattle.fractal_heap.specs.Read.{managed_path}

-- the place that is found is found without tests, too: they only refuse
abbrev pub IsFoundUnchecked : (header : FractalHeapHeader) (file id : List ℕ) (offset_size : ℕ)
    (place : Place) → Type 0
IsFoundUnchecked header file id offset_size place =
    managed_unchecked header file id offset_size ≡ Ok place

-- the object lies in the last block of the read's path, and the block in the file
abbrev pub IsInStoppingBlock : (header : FractalHeapHeader) (heap_header_address : ℕ)
    (file id : List ℕ) (offset_size : ℕ) (place : Place) → Type 0
IsInStoppingBlock header heap_header_address file id offset_size place =
    IsSomeAnd (last_of (managed_path header heap_header_address file id offset_size))
    (InBlock file place)

-- the path decides: every other file of equal length that has the same blocks on the read's path
-- gives the same answer, refused or not, and where an object is found it has the same bytes
pub record DecidedByPath (header : FractalHeapHeader) (heap_header_address : ℕ) (file id : List ℕ)
    (offset_size : ℕ) (result : Result Place FormatError) : Type 0 where
  pub answer : (other : List ℕ) → length file ≡ length other
      → SameBlocks file other (managed_path header heap_header_address file id offset_size)
      → result ≡ managed_checked header heap_header_address other id offset_size
  pub bytes : (other : List ℕ) → length file ≡ length other
      → SameBlocks file other (managed_path header heap_header_address file id offset_size)
      → IfOk result (λ place. object_of place file ≡ object_of place other)

-- where no block is told, but a refusal, the read is refused so; and no block is told where the
-- read is refused before its first one: for the heap's filters, else by its ID, else for an
-- undefined root, or for an offset size that is none
pub record TellsRefusal (header : FractalHeapHeader) (heap_header_address : ℕ)
    (file id : List ℕ) (offset_size : ℕ) (result : Result BlockSite FormatError) : Type 0 where
  pub told : (refused : FormatError) → result ≡ Err refused
      → managed_checked header heap_header_address file id offset_size ≡ Err refused
  pub filters : 0 < header.io_filter_encoded_length → result ≡ Err UnsupportedFilteredHeapObject
  pub by_id : (refused : FormatError) → header.io_filter_encoded_length ≡ 0
      → id_in header id ≡ Err refused → result ≡ Err refused
  pub undefined_root : (object : ManagedId) → sought_by header id ≡ Ok object
      → is_undefined_addr header.root_block_address offset_size ≡ true
      → result ≡ Err (UnexpectedEof 1 0)
  pub no_offset_size : (object : ManagedId) → sought_by header id ≡ Ok object
      → legal offset_size ≡ false → result ≡ Err (InvalidOffsetSize offset_size)
