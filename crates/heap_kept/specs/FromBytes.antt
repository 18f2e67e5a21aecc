-- The whole way from bytes: what it means that a file holds a header of ours, and that an object is
-- read from there on (docs/RULES.md, 'What comes back').
use Rattle.std.specs.Prelude.{ℕ, ◌<◌, ◌≡◌, List, length, take, drop, slice_index, Ok}
use Rattle.plan.specs.declared.ManagedPlan.{ManagedPlan}
use Rattle.fractal_heap.specs.declared.header.FractalHeapHeader.{FractalHeapHeader}
use Rattle.fractal_heap.specs.Header.{header_numbers}
use Rattle.fractal_heap.specs.Spelling.{header_spelled}
use Rattle.fractal_heap.specs.Writing.{header_length, header_checked}
use Rattle.fractal_heap.specs.Read.{unchecked_by}
use Rattle.heap_kept.specs.HeapKept.{Call, WriterAccepts, HoldsRegion, IsHeaderOf, ObjectIsManaged}
use Rattle.heap_kept.specs.HeapKept.{object_id, part_of}
use Rattle.heap_kept.specs.Kept.{ForKeptUnchecked, ForKeptChecked}

-- the header writer accepts this header at these widths, for some number of lent bytes, and what it
-- writes stands at this place of the file; its other bytes may be anything, and so may what the
-- header has of filters, which is not written
pub record HoldsHeader (file : List ℕ) (at : ℕ) (header : FractalHeapHeader)
    (offset_size length_size : ℕ) : Type 0 where
  pub lent : ℕ
  pub writer_accepts : header_checked (header_numbers header) offset_size length_size lent ≡ Ok tt
  pub header_there :
      take (header_length offset_size length_size) (drop at file)
      ≡ header_spelled header offset_size length_size

-- by the ID, and the header that is parsed at this place, the reader accepts, with the size as
-- length, and from the answered position on the file has these bytes
pub record IsRead (file : List ℕ) (at offset_size length_size : ℕ) (id : List ℕ) (size : ℕ)
    (bytes : List ℕ) : Type 0 where
  pub position : ℕ
  pub reader_accepts :
      unchecked_by file at offset_size length_size id offset_size
      ≡ Ok (record { position = position; length = size })
  pub bytes_there : take size (drop position file) ≡ bytes

-- whatever the writer of regions accepts, and whatever header of that plan the writer of headers: a
-- file that holds both, the region at its address and the header anywhere, gives every nonempty
-- object by its ID that is managed under the header
abbrev pub WrittenHeapsAreRead : Type 0
WrittenHeapsAreRead = (call : Call) (plan : ManagedPlan) → WriterAccepts call plan
    → (header : FractalHeapHeader) → IsHeaderOf header call plan
    → (file : List ℕ) (at length_size : ℕ)
    → HoldsHeader file at header call.site.offset_size length_size → HoldsRegion file call plan
    → (i : ℕ) → i < length call.sizes → 0 < slice_index call.sizes i
    → ObjectIsManaged header call i
    → IsRead file at call.site.offset_size length_size
    (object_id call.site.offset_size call.sizes i)
    (slice_index call.sizes i)
    (part_of call.sizes call.objects i)

-- whatever header of ours the file holds at this place, and whatever heap of ours with that header,
-- and of whatever object of it, managed under the header, this is the ID, given early or at the
-- end: P holds of that object's bytes
abbrev pub ForWrittenUnchecked : (file : List ℕ) (at offset_size length_size : ℕ) (id : List ℕ)
    (P : (bytes : List ℕ) → Type 0) → Type 0
ForWrittenUnchecked file at offset_size length_size id P = (header : FractalHeapHeader)
    → HoldsHeader file at header offset_size length_size
    → ForKeptUnchecked header file offset_size id P

-- the same where every block is tested, and the heap's blocks were written with this address of
-- their header
abbrev pub ForWrittenChecked : (file : List ℕ)
    (at offset_size length_size heap_header_address : ℕ) (id : List ℕ)
    (P : (bytes : List ℕ) → Type 0) → Type 0
ForWrittenChecked file at offset_size length_size heap_header_address id P =
    (header : FractalHeapHeader) → HoldsHeader file at header offset_size length_size
    → ForKeptChecked header heap_header_address file offset_size id P
