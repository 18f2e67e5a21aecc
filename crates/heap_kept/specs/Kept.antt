-- What an ID of ours promises of a file that holds a heap of ours.
use Rattle.std.specs.Prelude.{ℕ, ◌≡◌, ◌≤◌, ◌<◌, List, ◌++◌, length, take, drop, slice_index, nat_le}
use Rattle.std.specs.Prelude.{Result, Ok, true}
use Rattle.refusals.specs.Steps.{◌>>=◌, required}
use Rattle.refusals.specs.declared.FormatError.{FormatError}
use Rattle.refusals.specs.declared.FormatError.TheVariants.{SliceTooShort}
use Rattle.plan.specs.declared.ManagedPlan.{ManagedPlan}
use Rattle.fields.specs.declared.place.Place.{Place}
use Rattle.checked_reading.specs.Blocks.{has_checksum}
use Rattle.fractal_heap.specs.declared.header.FractalHeapHeader.{FractalHeapHeader}
use Rattle.heap_kept.specs.HeapKept.{Call, WriterAccepts, HoldsRegion, IsHeaderOf, ObjectIsManaged}
use Rattle.heap_kept.specs.HeapKept.{object_id, part_of}

-- the file holds a heap of ours: the writer accepted the call with the plan, and the file holds
-- what it wrote; the header is that heap's, and the offset size the call's
pub record HoldsHeap (header : FractalHeapHeader) (file : List ℕ) (offset_size : ℕ)
    (call : Call) (plan : ManagedPlan) : Type 0 where
  pub writer_accepts : WriterAccepts call plan
  pub holds_region : HoldsRegion file call plan
  pub is_header : IsHeaderOf header call plan
  pub offset_size_is : offset_size ≡ call.site.offset_size

-- the ID that the ID writer gives the i-th object of the call, not an empty one, when there are its
-- first objects alone, `early` of them: all, or fewer
pub record IsIdOf (id : List ℕ) (call : Call) (early i : ℕ) : Type 0 where
  pub index : i < early
  pub front : early ≤ length call.sizes
  pub not_empty : 0 < slice_index call.sizes i
  pub id_given : id ≡ object_id call.site.offset_size (take early call.sizes) i

-- whatever heap of ours the file holds, and of whatever object of it, managed under the header,
-- this is the ID: P holds of that object's bytes
abbrev pub ForKeptUnchecked : (header : FractalHeapHeader) (file : List ℕ) (offset_size : ℕ)
    (id : List ℕ) (P : (bytes : List ℕ) → Type 0) → Type 0
ForKeptUnchecked header file offset_size id P = (call : Call) (plan : ManagedPlan) (early i : ℕ)
    → HoldsHeap header file offset_size call plan → IsIdOf id call early i
    → ObjectIsManaged header call i → P (part_of call.sizes call.objects i)

-- the same where every block is tested: the header's flags say that direct blocks have a checksum,
-- and its address is the one that the heap's blocks were written with
abbrev pub ForKeptChecked : (header : FractalHeapHeader) (heap_header_address : ℕ)
    (file : List ℕ) (offset_size : ℕ) (id : List ℕ) (P : (bytes : List ℕ) → Type 0) → Type 0
ForKeptChecked header heap_header_address file offset_size id P = has_checksum header.flags ≡ true
    → (call : Call) (plan : ManagedPlan) (early i : ℕ)
    → HoldsHeap header file offset_size call plan
    → heap_header_address ≡ call.site.heap_header_address → IsIdOf id call early i
    → ObjectIsManaged header call i → P (part_of call.sizes call.objects i)

-- `found` is a place where the file has these bytes, and their number
pub record IsPlaceOf (found : Result Place FormatError) (file bytes : List ℕ) : Type 0 where
  pub position : ℕ
  pub place_found : found ≡ Ok (record { position = position; length = length bytes })
  pub bytes_there : take (length bytes) (drop position file) ≡ bytes

-- just these bytes were put into the front of the lent ones, and the answer is their number
pub record IsFetched (result : Result ℕ FormatError) (old new bytes : List ℕ) : Type 0 where
  pub length_answered : result ≡ Ok (length bytes)
  pub bytes_copied : new ≡ bytes ++ drop (length bytes) old

-- what `fetch` answers, where this was found and so many bytes are lent: how many were copied, or a
-- refusal
abbrev pub fetched : (found : Result Place FormatError) (lent : ℕ) → Result ℕ FormatError
fetched found lent = do
  place ← found
  _ ← required (nat_le place.length lent) (SliceTooShort place.length lent)
  Ok place.length
