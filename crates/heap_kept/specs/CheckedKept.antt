-- What it means that a heap keeps its objects for the reader that tests every block on the way
-- (docs/RULES.md, 'What comes back').
use Rattle.std.specs.Prelude.{ℕ, ◌<◌, ◌≡◌, true, List, length, take, drop, slice_index, Result, Ok}
use Rattle.refusals.specs.declared.FormatError.{FormatError}
use Rattle.plan.specs.declared.ManagedPlan.{ManagedPlan}
use Rattle.fields.specs.declared.place.Place.{Place}
use Rattle.checked_reading.specs.Blocks.{has_checksum}
use Rattle.fractal_heap.specs.declared.header.FractalHeapHeader.{FractalHeapHeader}
use Rattle.fractal_heap.specs.Read.{managed_checked, checked_by}
use Rattle.heap_kept.specs.HeapKept.{Call, WriterAccepts, HoldsRegion, IsHeaderOf, ObjectIsManaged}
use Rattle.heap_kept.specs.HeapKept.{object_id, part_of}
use Rattle.heap_kept.specs.FromBytes.{HoldsHeader}

-- this is what a reader answers where it finds the object: it accepts, with the size as length, and
-- from the answered position on the file has these bytes
pub record IsFound (answered : Result Place FormatError) (file : List ℕ) (size : ℕ)
    (bytes : List ℕ) : Type 0 where
  pub position : ℕ
  pub reader_accepts : answered ≡ Ok (record { position = position; length = size })
  pub bytes_there : take size (drop position file) ≡ bytes

-- the i-th object of a call
abbrev pub ObjectIsFound : (answered : Result Place FormatError) (file : List ℕ) (call : Call)
    (i : ℕ) → Type 0
ObjectIsFound answered file call i =
    IsFound answered file (slice_index call.sizes i) (part_of call.sizes call.objects i)

-- every nonempty object of what the writer accepts is found by its ID in the file, with every block
-- tested, by a header under which it is managed and whose flags say that direct blocks have a
-- checksum, and by the header's address that the heap was written with
abbrev pub CheckedKept : Type 0
CheckedKept = (call : Call) (plan : ManagedPlan) → WriterAccepts call plan
    → (file : List ℕ) → HoldsRegion file call plan
    → (header : FractalHeapHeader) → IsHeaderOf header call plan
    → has_checksum header.flags ≡ true
    → (i : ℕ) → i < length call.sizes → 0 < slice_index call.sizes i
    → ObjectIsManaged header call i
    → ObjectIsFound
    (managed_checked header call.site.heap_header_address file
    (object_id call.site.offset_size call.sizes i) call.site.offset_size)
    file call i

-- the same where the file holds the header's bytes, as the header writer leaves them, at any place
abbrev pub WrittenHeapsPass : Type 0
WrittenHeapsPass = (call : Call) (plan : ManagedPlan) → WriterAccepts call plan
    → (header : FractalHeapHeader) → IsHeaderOf header call plan
    → has_checksum header.flags ≡ true → (file : List ℕ) (at length_size : ℕ)
    → HoldsHeader file at header call.site.offset_size length_size → HoldsRegion file call plan
    → (i : ℕ) → i < length call.sizes → 0 < slice_index call.sizes i
    → ObjectIsManaged header call i
    → ObjectIsFound
    (checked_by file at call.site.offset_size length_size call.site.heap_header_address
    (object_id call.site.offset_size call.sizes i) call.site.offset_size)
    file call i
