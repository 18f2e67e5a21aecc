-- What it means that a heap keeps its objects (docs/RULES.md, 'What comes back').
use Rattle.std.specs.Prelude.{ℕ, ◌+◌, ◌≤◌, ◌<◌, ◌≡◌, List, length, take, drop, slice_index, Ok, Err}
use Rattle.refusals.specs.declared.FormatError.TheVariants.{UnexpectedEof, HeapIdTooLarge}
use Rattle.table.specs.Table.{fixed, heap_space}
use Rattle.numbers.specs.Sums.{sum}
use Rattle.plan.specs.declared.ManagedPlan.{ManagedPlan}
use Rattle.plan.specs.Answer.{planned_for}
use Rattle.plan.specs.Plans.{object_start, PlanKept}
use Rattle.fractal_heap.specs.declared.header.FractalHeapHeader.{FractalHeapHeader}
use Rattle.fractal_heap.specs.Read.{managed_unchecked}
use Rattle.region_write.specs.Region.{region}
use Rattle.region_blocks.specs.declared.Site.{Site}
use Rattle.fractal_heap_write.specs.declared.checks.Lent.{Lent}
use Rattle.fractal_heap_write.specs.Answer.{serialized_for}
use Rattle.ids.specs.Checks.{id_checked}
use Rattle.ids.specs.Written.{managed_id, HasTable, IsManaged}

-- what the writer is asked: the sizes, the objects' joined bytes, the addresses with their width,
-- and how many places and bytes it is lent for the two lists and the region
pub record Call : Type 0 where
  pub sizes : List ℕ
  pub objects : List ℕ
  pub site : Site
  pub offset_places : ℕ
  pub block_places : ℕ
  pub region_bytes : ℕ

-- how much it is lent
abbrev pub lent_by : (call : Call) → Lent
lent_by call = record {
  offset_places = call.offset_places;
  block_places = call.block_places;
  object_bytes = length call.objects;
  region_bytes = call.region_bytes;
}

-- the writer accepts the call, with this plan
pub record WriterAccepts (call : Call) (plan : ManagedPlan) : Type 0 where
  pub plan_answered : serialized_for call.sizes (lent_by call) call.site ≡ Ok plan

-- from the region address on the file holds what the contract of `serialize` says that the lent
-- region holds then; its other bytes may be anything
pub record HoldsRegion (file : List ℕ) (call : Call) (plan : ManagedPlan) : Type 0 where
  pub region_there :
      take plan.region_size (drop call.site.region_address file)
      ≡ region call.site plan.root_rows call.sizes call.objects

-- the header has filter length 0, the root at the region address plus the root's place, the plan's
-- root rows and the fixed geometry; its other fields may be anything
pub record IsHeaderOf (header : FractalHeapHeader) (call : Call) (plan : ManagedPlan) : Type 0 where
  pub unfiltered : header.io_filter_encoded_length ≡ 0
  pub root_address : header.root_block_address ≡ call.site.region_address + plan.root_place
  pub root_rows : header.current_rows_in_root_indirect_block ≡ plan.root_rows
  pub fixed_geometry : HasTable header.table fixed

-- the ID that the i-th object is given, by its heap offset and its size: its eight bytes alone,
-- since the reader takes a ninth into the length where the header's sizes need three bytes
abbrev pub object_id : (offset_size : ℕ) (sizes : List ℕ) (i : ℕ) → List ℕ
object_id offset_size sizes i =
    managed_id fixed (object_start offset_size sizes i) (slice_index sizes i)

-- the i-th object's part of the joined bytes, which begins at the sum of the sizes before it
abbrev pub part_of : (sizes objects : List ℕ) (i : ℕ) → List ℕ
part_of sizes objects i = take (slice_index sizes i) (drop (sum (take i sizes)) objects)

-- the ID writer accepts offset and size in every lent slice of at least eight bytes; by the ID that
-- it writes `read_managed_object_unchecked` accepts, with the size as length, and from the answered
-- position on the file has these bytes
pub record ComesBack (file : List ℕ) (header : FractalHeapHeader)
    (offset_size offset size : ℕ) (bytes : List ℕ) : Type 0 where
  pub id_accepted : (lent : ℕ) → 8 ≤ lent → id_checked fixed offset size lent ≡ Ok tt
  pub position : ℕ
  pub reader_accepts :
      managed_unchecked header file (managed_id fixed offset size) offset_size
      ≡ Ok (record { position = position; length = size })
  pub bytes_there : take size (drop position file) ≡ bytes

-- the i-th object of a call comes back
abbrev pub ObjectComesBack : (file : List ℕ) (header : FractalHeapHeader) (call : Call) (i : ℕ)
    → Type 0
ObjectComesBack file header call i =
    ComesBack file header call.site.offset_size
    (object_start call.site.offset_size call.sizes i)
    (slice_index call.sizes i)
    (part_of call.sizes call.objects i)

-- the i-th object of a call is managed under the header: it is no longer than the header's largest
-- managed object
abbrev pub ObjectIsManaged : (header : FractalHeapHeader) (call : Call) (i : ℕ) → Type 0
ObjectIsManaged header call i = IsManaged (slice_index call.sizes i) header.max_managed_object_size

-- what planning accepts is kept apart, and by its ID every nonempty object of what the writer
-- accepts is found in the file, with exactly its bytes, by a header under which it is managed
pub record HeapKept : Type 0 where
  pub kept_apart : (sizes : List ℕ) (offset_places block_places offset_size : ℕ)
      (plan : ManagedPlan)
      → planned_for sizes offset_places block_places offset_size ≡ Ok plan
      → PlanKept sizes offset_size plan
  pub comes_back : (call : Call) (plan : ManagedPlan) → WriterAccepts call plan
      → (file : List ℕ) → HoldsRegion file call plan
      → (header : FractalHeapHeader) → IsHeaderOf header call plan
      → (i : ℕ) → i < length call.sizes → 0 < slice_index call.sizes i
      → ObjectIsManaged header call i → ObjectComesBack file header call i

-- the call for its first objects alone, `early` of them
abbrev pub first_of : (early : ℕ) (call : Call) → Call
first_of early call = record call {
  sizes = take early call.sizes;
  objects = take (sum (take early call.sizes)) call.objects;
}

-- an ID that the i-th object was given when there were the first objects alone: it is the object's
-- ID among all, and by it the file with all of them gives the bytes that the object had then, by a
-- header under which it is managed
pub record EarlyIdHolds (call : Call) (early : ℕ) (file : List ℕ) (header : FractalHeapHeader)
    (i : ℕ) : Type 0 where
  pub id_stays :
      object_id call.site.offset_size (take early call.sizes) i
      ≡ object_id call.site.offset_size call.sizes i
  pub comes_back : ObjectIsManaged header call i
      → ObjectComesBack file header (first_of early call) i

-- so does the early ID of every object but the empty ones
abbrev pub EarlyIdsHold : Type 0
EarlyIdsHold = (call : Call) (plan : ManagedPlan) → WriterAccepts call plan
    → (file : List ℕ) → HoldsRegion file call plan
    → (header : FractalHeapHeader) → IsHeaderOf header call plan
    → (early i : ℕ) → i < early → i < length call.sizes → 0 < slice_index call.sizes i
    → EarlyIdHolds call early file header i

-- what is left free: by the ID of an empty object the reader accepts, with length 0 at a place of
-- the file, or, under an indirect root alone, it refuses by 1 with the object's offset and the
-- file's length
pub data EmptyRead (file : List ℕ) (header : FractalHeapHeader) (offset_size offset root_rows : ℕ)
    : Type 0 where
  accepts : (position : ℕ) → position ≤ length file
      → managed_unchecked header file (managed_id fixed offset 0) offset_size
      ≡ Ok (record { position = position; length = 0 })
      → EmptyRead file header offset_size offset root_rows
  refuses : 0 < root_rows
      → managed_unchecked header file (managed_id fixed offset 0) offset_size
      ≡ Err (UnexpectedEof offset (length file))
      → EmptyRead file header offset_size offset root_rows

-- its offset is at most the heap's end, and there alone it has no ID
pub record EmptyAnswered (file : List ℕ) (header : FractalHeapHeader)
    (offset_size offset root_rows : ℕ) : Type 0 where
  pub offset_in_heap : offset ≤ heap_space fixed
  pub id_accepted : offset < heap_space fixed → (lent : ℕ) → 8 ≤ lent
      → id_checked fixed offset 0 lent ≡ Ok tt
  pub id_refused : offset ≡ heap_space fixed → (lent : ℕ)
      → id_checked fixed offset 0 lent ≡ Err (HeapIdTooLarge offset 0)
  pub reader_answers : offset < heap_space fixed
      → EmptyRead file header offset_size offset root_rows

abbrev pub EmptyObjectsAnswered : Type 0
EmptyObjectsAnswered = (call : Call) (plan : ManagedPlan) → WriterAccepts call plan
    → (file : List ℕ) → HoldsRegion file call plan
    → (header : FractalHeapHeader) → IsHeaderOf header call plan
    → (i : ℕ) → i < length call.sizes → slice_index call.sizes i ≡ 0
    → EmptyAnswered file header call.site.offset_size
    (object_start call.site.offset_size call.sizes i) plan.root_rows
