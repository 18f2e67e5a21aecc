-- The worked cases: sizes and what is planned and written for them, in lists of just enough places;
-- an empty object that is not found; IDs and what they say; the rows of the fixed table, as
-- planning and as the reader has them; checksums; headers to be written, and headers that are
-- parsed.
use Rattle.std.specs.Prelude.{ℕ, ◌-◌, ◌^◌, ◌≤◌, ◌<◌, max, ◌≡◌, List, [], ◌∷◌, ◌++◌, length, take}
use Rattle.std.specs.Prelude.{drop}
use Rattle.std.specs.Prelude.{slice_index, Result, Ok, Err, Some}
use Rattle.refusals.specs.declared.FormatError.{FormatError}
use Rattle.refusals.specs.declared.FormatError.TheVariants.{UnexpectedEof, ObjectTooLarge}
use Rattle.refusals.specs.declared.FormatError.TheVariants.{UnsupportedFilteredHeapObject}
use Rattle.refusals.specs.declared.FormatError.TheVariants.{SliceTooShort, HeaderFieldTooLarge}
use Rattle.checksum.specs.Lookup3.{hashlittle}
use Rattle.table.specs.Table.{fixed, row_bits, row_offset, covering}
use Rattle.plan.specs.declared.ManagedPlan.{ManagedPlan}
use Rattle.planner.specs.Steps.{plan_offsets, plan_starts}
use Rattle.plan.specs.Answer.{planned_for}
use Rattle.plan.specs.Plans.{object_start}
use Rattle.region_blocks.specs.Site.{site_of}
use Rattle.region_write.specs.Region.{region, root_bytes}
use Rattle.ids.specs.Checks.{id_checked}
use Rattle.ids.specs.Written.{managed_id}
use Rattle.reading.specs.declared.rows.DoublingTable.{DoublingTable}
use Rattle.reading.specs.Rows.{block_size, direct_rows, size_to_rows, slot_size}
use Rattle.fields.specs.declared.place.Place.{Place}
use Rattle.ids.specs.Decoded.{decoded_id}
use Rattle.ids.specs.Tiny.{tiny_at}
use Rattle.fractal_heap.specs.declared.header.FractalHeapHeader.{FractalHeapHeader}
use Rattle.fractal_heap.specs.Header.{header_at, header_of}
use Rattle.fractal_heap.specs.Read.{managed_unchecked}
use Rattle.fractal_heap.specs.Spelling.{unsummed}
use Rattle.fractal_heap.specs.Writing.{header_checked}
use Rattle.heap_kept.specs.HeapKept.{Call, WriterAccepts, HoldsRegion, IsHeaderOf}

-- the fixed geometry as a header has it
abbrev pub fixed_table : DoublingTable
fixed_table = record {
  table_width = 4;
  starting_block_size = 1024;
  max_direct_block_size = 65536;
  max_heap_size = 40;
}

-- sizes with their offsets, block starts, plan and region; sizes that are refused; sizes with the
-- index of an empty object that is not found; a span with the fewest root rows; a direct row; the
-- rows of an indirect row's slots; an offset and a length with their managed ID; a managed ID at
-- some heap bits, a largest direct block and a largest managed object, with offset and length; a
-- tiny ID of a heap with IDs of that length, and where its object is; bytes with their checksum;
-- the numbers of a header with two widths and room, and what is answered of writing it; a file with
-- a place and two widths, and what is parsed there
pub data Case : Type 0 where
  plans : (offset_size : ℕ) (sizes offsets starts : List ℕ) (plan : ManagedPlan) → Case
  refuses : (offset_size : ℕ) (sizes : List ℕ) (refused : FormatError) → Case
  unfound : (offset_size : ℕ) (sizes : List ℕ) (i : ℕ) → Case
  covers : (span rows : ℕ) → Case
  direct : (row : ℕ) → Case
  indirect : (row rows : ℕ) → Case
  writes : (offset len : ℕ) (id : List ℕ) → Case
  decodes : (bits largest_block largest_managed : ℕ) (id : List ℕ) (offset len : ℕ) → Case
  tiny : (id_length : ℕ) (id : List ℕ) (found : Result Place FormatError) → Case
  hashes : (bytes : List ℕ) (sum : ℕ) → Case
  tests_header : (numbers : List ℕ) (offset_size length_size lent : ℕ)
      (answered : Result (Unit {0}) FormatError) → Case
  parses : (file : List ℕ) (at offset_size length_size : ℕ)
      (parsed : Result FractalHeapHeader FormatError) → Case

-- the region of a plan, whatever the addresses and the bytes of the objects: its size, and the root
-- at its place
pub record RegionIsPlanned (offset_size : ℕ) (sizes : List ℕ) (plan : ManagedPlan) : Type 0 where
  pub size_planned : (heap_header address : ℕ) (objects : List ℕ)
      → length (region (site_of offset_size heap_header address) plan.root_rows sizes objects)
      ≡ plan.region_size
  pub root_there : (heap_header address : ℕ) (objects : List ℕ)
      → let site = site_of offset_size heap_header address in
      let root = root_bytes site plan.root_rows sizes objects in
      take (length root) (drop plan.root_place (region site plan.root_rows sizes objects)) ≡ root

-- a call of the writer for these sizes
abbrev pub call_for : (offset_size : ℕ) (sizes objects : List ℕ)
    (heap_header address offset_places block_places region_bytes : ℕ) → Call
call_for offset_size sizes objects heap_header address offset_places block_places region_bytes =
    record {
      sizes = sizes;
      objects = objects;
      site = site_of offset_size heap_header address;
      offset_places = offset_places;
      block_places = block_places;
      region_bytes = region_bytes;
    }

-- the i-th object is empty, and whatever else is handed to the writer and stands in the file, by
-- its ID the reader answers 1, with its offset and the file's length
pub record EmptyUnfound (offset_size : ℕ) (sizes : List ℕ) (i : ℕ) : Type 0 where
  pub index : i < length sizes
  pub empty : slice_index sizes i ≡ 0
  pub unfound : (objects : List ℕ)
      (heap_header address offset_places block_places region_bytes : ℕ) (plan : ManagedPlan)
      → let call = call_for offset_size sizes objects heap_header address
      offset_places block_places region_bytes in
      WriterAccepts call plan → (file : List ℕ) → HoldsRegion file call plan
      → (header : FractalHeapHeader) → IsHeaderOf header call plan
      → let offset = object_start offset_size sizes i in
      managed_unchecked header file (managed_id fixed offset 0) offset_size
      ≡ Err (UnexpectedEof offset (length file))

-- planned in lists of just enough places
abbrev pub planned : (offset_size : ℕ) (sizes : List ℕ) → Result ManagedPlan FormatError
planned offset_size sizes =
    planned_for sizes (length sizes) (max 1 (length sizes)) offset_size

abbrev pub Holds : (worked : Case) → Type 0
Holds (plans offset_size sizes offsets starts plan) =
    (planned offset_size sizes ≡ Ok plan)
    × (plan_offsets fixed offset_size sizes ≡ offsets)
    × (plan_starts fixed offset_size sizes ≡ starts)
    × RegionIsPlanned offset_size sizes plan
Holds (refuses offset_size sizes refused) = planned offset_size sizes ≡ Err refused
Holds (unfound offset_size sizes i) = EmptyUnfound offset_size sizes i
Holds (covers span rows) = covering fixed span ≡ Some rows
Holds (direct row) =
    (row_bits fixed row ≤ fixed.direct_bits)
    × (row < direct_rows fixed_table)
    × (slot_size fixed_table row ≡ 2 ^ row_bits fixed row)
Holds (indirect row rows) =
    (fixed.direct_bits < row_bits fixed row)
    × (row - fixed.width_bits ≡ rows)
    × (row_offset fixed rows ≡ 2 ^ row_bits fixed row)
    × (direct_rows fixed_table ≤ row)
    × (size_to_rows fixed_table (block_size fixed_table row) ≡ rows)
    × (slot_size fixed_table row ≡ 2 ^ row_bits fixed row)
Holds (writes offset len id) =
    (managed_id fixed offset len ≡ id) × (id_checked fixed offset len (length id) ≡ Ok tt)
Holds (decodes bits largest_block largest_managed id offset len) =
    decoded_id (record fixed_table { max_heap_size = bits; max_direct_block_size = largest_block })
    largest_managed id
    ≡ Ok (record { offset = offset; length = len })
Holds (tiny id_length id found) = tiny_at id_length id ≡ found
Holds (hashes bytes sum) = hashlittle bytes ≡ sum
Holds (tests_header numbers offset_size length_size lent answered) =
    header_checked numbers offset_size length_size lent ≡ answered
Holds (parses file at offset_size length_size parsed) =
    header_at file at offset_size length_size ≡ parsed

-- the first case holds, and the rest
pub record Both (P Q : Type 0) : Type 0 where
  pub first : P
  pub rest : Q

abbrev pub All : (cases : List Case) → Type 0
All [] = ◌≡◌ {A = ℕ} 0 0
All (c ∷ cs) = Both (Holds c) (All cs)

-- a plan by its numbers: block count, region size, root rows, the root's place, managed, allocated
-- and free space, iterator
abbrev pub of : (count region rows place managed allocated free iterator : ℕ) → ManagedPlan
of count region rows place managed allocated free iterator = record {
  block_count = count;
  region_size = region;
  root_rows = rows;
  root_place = place;
  managed_space = managed;
  allocated_space = allocated;
  free_space = free;
  allocation_iterator = iterator;
}

-- the header of a plan at addresses of 8 bytes, in numbers; `undefined` is the undefined address
abbrev pub heap_numbers : (undefined : ℕ) (plan : ManagedPlan) → List ℕ
heap_numbers undefined plan =
    8 ∷ 0 ∷ 2 ∷ 65514 ∷ 0 ∷ undefined ∷ plan.free_space ∷ undefined
    ∷ plan.managed_space ∷ plan.allocated_space ∷ plan.allocation_iterator
    ∷ 1 ∷ 0 ∷ 0 ∷ 0 ∷ 0 ∷ 4 ∷ 1024 ∷ 65536 ∷ 40 ∷ 1 ∷ 2048 ∷ plan.root_rows ∷ []

-- the numbers with others in their first two places
abbrev pub beginning_with : (first second : ℕ) (numbers : List ℕ) → List ℕ
beginning_with first second numbers = first ∷ second ∷ drop 2 numbers

-- a header of these numbers with filters: the position of their information, the filtered root's
-- size, the mask
abbrev pub filtered : (numbers : List ℕ) (position size mask : ℕ) → FractalHeapHeader
filtered numbers position size mask =
    record (header_of numbers) {
      io_filter_information_position = position;
      filtered_root_direct_block_size = size;
      io_filter_mask = mask;
    }

-- worked heaps 3 and 6
abbrev pub third_heap : ManagedPlan
third_heap = of 1 2166 3 0 16384 2048 15117 10240

abbrev pub sixth_heap : ManagedPlan
sixth_heap = of 1 65814 8 0 524288 65536 458070 327680

-- the worked cases 1 to 10 (docs/RULES.md), after 5 an empty object in an indirect heap that
-- answers 1, and the wrong turn, 1,003 then 1; the whole heap space; IDs at 64 and more heap bits,
-- with padding, with a length of three bytes and of none; the empty tiny ID, and one of 18 bytes;
-- the worked headers 11 to 19
abbrev pub cases : List Case
cases =
    let third : (filter_length : ℕ) → List ℕ = λ filter_length.
    beginning_with 8 filter_length (heap_numbers (2 ^ 64 - 1) third_heap) in
    plans 8 [] [] (0 ∷ []) (of 1 1024 0 0 1024 1024 1002 0)
    ∷ plans 8 (1002 ∷ []) (22 ∷ []) (0 ∷ []) (of 1 1024 0 0 1024 1024 0 0)
    ∷ plans 8 (1003 ∷ []) (8214 ∷ []) (8192 ∷ []) (of 1 2166 3 0 16384 2048 15117 10240)
    ∷ plans 8 (1002 ∷ 1 ∷ []) (22 ∷ 1046 ∷ []) (0 ∷ 1024 ∷ []) (of 2 2102 1 0 4096 2048 3005 2048)
    ∷ plans 8 (1002 ∷ 0 ∷ []) (22 ∷ 1024 ∷ []) (0 ∷ []) (of 1 1024 0 0 1024 1024 0 0)
    ∷ plans 8 (1002 ∷ 1002 ∷ 0 ∷ []) (22 ∷ 1046 ∷ 2048 ∷ []) (0 ∷ 1024 ∷ [])
    (of 2 2102 1 0 4096 2048 2004 2048)
    ∷ unfound 8 (1002 ∷ 1002 ∷ 0 ∷ []) 2
    ∷ plans 8 (65514 ∷ []) (262166 ∷ []) (262144 ∷ []) (of 1 65814 8 0 524288 65536 458070 327680)
    ∷ refuses 8 (65515 ∷ []) (ObjectTooLarge 0 65515)
    ∷ plans 8 (65514 ∷ 65514 ∷ 65514 ∷ 65514 ∷ 65514 ∷ [])
    (262166 ∷ 327702 ∷ 393238 ∷ 458774 ∷ 2359318 ∷ [])
    (262144 ∷ 327680 ∷ 393216 ∷ 458752 ∷ 2359296 ∷ [])
    (of 5 328332 11 278 4194304 327680 3858638 2424832)
    ∷ writes 8214 1003 (0x00 ∷ 0x16 ∷ 0x20 ∷ 0x00 ∷ 0x00 ∷ 0x00 ∷ 0xEB ∷ 0x03 ∷ [])
    ∷ decodes 40 65536 65514 (0x00 ∷ 0x16 ∷ 0x20 ∷ 0x00 ∷ 0x00 ∷ 0x00 ∷ 0xEB ∷ 0x03 ∷ []) 8214 1003
    ∷ direct 7
    ∷ indirect 8 6
    ∷ hashes [] 0xDEADBEEF
    ∷ plans 8 (1003 ∷ 1 ∷ []) (8214 ∷ 9217 ∷ []) (8192 ∷ []) (of 1 2166 3 0 16384 2048 15116 10240)
    ∷ covers (2 ^ 40) 29
    ∷ decodes 64 65536 65514 (0 ∷ 1 ∷ 2 ∷ 0 ∷ 0 ∷ 0 ∷ 0 ∷ 0 ∷ 0 ∷ 9 ∷ []) 513 0
    ∷ decodes 65535 65536 65514 (0 ∷ 1 ∷ 2 ∷ []) 513 0
    ∷ decodes 40 65536 65520 (0 ∷ 1 ∷ 0 ∷ 0 ∷ 0 ∷ 0 ∷ 2 ∷ 0 ∷ 1 ∷ []) 1 2
    ∷ decodes 40 65536 65536 (0 ∷ 0 ∷ 0 ∷ 0 ∷ 0 ∷ 0 ∷ 1 ∷ 0 ∷ 1 ∷ []) 0 65537
    ∷ decodes 40 65536 0 (0 ∷ 1 ∷ 0 ∷ 0 ∷ 0 ∷ 0 ∷ 2 ∷ 0 ∷ 1 ∷ []) 1 0
    ∷ tiny 8 [] (Err (UnexpectedEof 1 0))
    ∷ tiny 18
    (0x29 ∷ 0x57 ∷ 0xBF ∷ 0x2A ∷ 0xBE ∷ 0x47 ∷ 0xD2 ∷ 0x9D ∷ 0x81
    ∷ 0xAB ∷ 0xFA ∷ 0 ∷ 0 ∷ 0 ∷ 0 ∷ 0 ∷ 0 ∷ 0 ∷ [])
    (Err (UnexpectedEof 2394 18))
    ∷ tiny 8 (0x22 ∷ 7 ∷ 8 ∷ 9 ∷ []) (Ok (record { position = 1; length = 3 }))
    ∷ tests_header (heap_numbers (2 ^ 64 - 1) sixth_heap) 8 2 146
    (Err (HeaderFieldTooLarge 6 458070))
    ∷ tests_header (heap_numbers (2 ^ 64 - 1) third_heap) 8 2 146
    (Err (HeaderFieldTooLarge 18 65536))
    ∷ tests_header (heap_numbers (2 ^ 64 - 1) third_heap) 4 8 146
    (Err (HeaderFieldTooLarge 5 (2 ^ 64 - 1)))
    ∷ tests_header (heap_numbers (2 ^ 32 - 1) third_heap) 4 8 134 (Ok tt)
    ∷ tests_header (heap_numbers (2 ^ 64 - 1) third_heap) 8 8 145 (Err (SliceTooShort 146 145))
    ∷ tests_header (beginning_with 65536 0 (heap_numbers (2 ^ 64 - 1) third_heap)) 8 8 0
    (Err (HeaderFieldTooLarge 0 65536))
    ∷ tests_header (beginning_with 65536 65536 (heap_numbers (2 ^ 64 - 1) third_heap)) 8 8 0
    (Err UnsupportedFilteredHeapObject)
    ∷ parses (unsummed (header_of (third 1)) 8 8 ++ 0 ∷ 0 ∷ 0 ∷ 0 ∷ []) 0 8 8
    (Err (UnexpectedEof 159 146))
    ∷ parses
    (unsummed (header_of (third 3)) 8 8
    ++ 1 ∷ 2 ∷ 3 ∷ 4 ∷ 5 ∷ 6 ∷ 7 ∷ 8 ∷ 5 ∷ 0 ∷ 0 ∷ 0 ∷ 9 ∷ 8 ∷ 7 ∷ 0x5A ∷ 0x68 ∷ 0x99 ∷ 0x1F ∷ [])
    0 8 8 (Ok (filtered (third 3) 154 0x0807060504030201 5))
    ∷ parses (1 ∷ 2 ∷ unsummed (header_of (third 0)) 8 8 ++ 0x62 ∷ 0x61 ∷ 0x2E ∷ 0xCE ∷ []) 2 8 8
    (Ok (filtered (third 0) 0 0 0))
    ∷ []
