-- Writing a header without filters: its tests, in their order, what is told of it, and what holds
-- of its bytes.
use Rattle.std.specs.Prelude.{ℕ, ◌+◌, ◌*◌, ◌^◌, ◌<◌, ◌≤◌, ◌≡◌, ◌==◌, ◌||◌, Bool, true}
use Rattle.std.specs.Prelude.{List, [], ◌∷◌, ◌++◌}
use Rattle.std.specs.Prelude.{length, take, drop, slice_index}
use Rattle.std.specs.Prelude.{nat_lt, nat_le, Result, Ok, IsOk}
use Rattle.refusals.specs.Steps.{◌>>=◌, required}
use Rattle.refusals.specs.Refusals.{answer}
use Rattle.refusals.specs.declared.answer.Answer.{Answer}
use Rattle.refusals.specs.declared.FormatError.{FormatError}
use Rattle.refusals.specs.declared.FormatError.TheVariants.{InvalidOffsetSize, InvalidLengthSize}
use Rattle.refusals.specs.declared.FormatError.TheVariants.{UnsupportedFilteredHeapObject}
use Rattle.refusals.specs.declared.FormatError.TheVariants.{HeaderFieldTooLarge, SliceTooShort}
use Rattle.checksum.specs.Lookup3.{hashlittle}
use Rattle.fields.specs.Widths.{legal}
use Rattle.fractal_heap.specs.Header.{header_at, header_end, header_numbers, without_filters}
use Rattle.fractal_heap.specs.Spelling.{field_widths, header_spelled, unsummed}
use Rattle.fractal_heap.specs.declared.header.FractalHeapHeader.{FractalHeapHeader}
use Rattle.fractal_heap.specs.declared.write.WrittenHeader.{WrittenHeader}

-- how many bytes a whole header without filters has
abbrev pub header_length : (offset_size length_size : ℕ) → ℕ
header_length offset_size length_size = header_end offset_size length_size + 4

-- how many bytes a field may have
abbrev pub field_width : (width : ℕ) → Bool
field_width width = (width == 1) || legal width

-- a number that is too large for its width is refused, with its place in header order
abbrev pub field_checked : (place width number : ℕ) → Result (Unit {0}) FormatError
field_checked place width number =
    required (nat_lt number (2 ^ (8 * width))) (HeaderFieldTooLarge place number)

-- the first of these numbers that is, the first one's place being `place`
unfoldable pub widths_checked : (place : ℕ) (widths numbers : List ℕ)
    → Result (Unit {0}) FormatError
widths_checked place [] numbers = Ok tt
widths_checked place (width ∷ widths) [] = Ok tt
widths_checked place (width ∷ widths) (number ∷ numbers) =
    field_checked place width number >>= (λ _. widths_checked (place + 1) widths numbers)

-- the four that stand in a list from `place` on
abbrev pub four_from : (place : ℕ) (list : List ℕ) → List ℕ
four_from place list =
    slice_index list place ∷ slice_index list (place + 1) ∷ slice_index list (place + 2)
    ∷ slice_index list (place + 3) ∷ []

-- how many bytes four fields of such widths have together
abbrev pub four_size : (place : ℕ) (widths : List ℕ) → ℕ
four_size place widths =
    slice_index widths place + slice_index widths (place + 1) + slice_index widths (place + 2)
    + slice_index widths (place + 3)

-- the four from `place` on are widths that fields may have
pub record AreWidths (place : ℕ) (widths : List ℕ) : Type 0 where
  pub first : field_width (slice_index widths place) ≡ true
  pub second : field_width (slice_index widths (place + 1)) ≡ true
  pub third : field_width (slice_index widths (place + 2)) ≡ true
  pub fourth : field_width (slice_index widths (place + 3)) ≡ true

-- the tests of a header of these numbers, in header order, into so many lent bytes
abbrev pub header_checked : (numbers : List ℕ) (offset_size length_size lent : ℕ)
    → Result (Unit {0}) FormatError
header_checked numbers offset_size length_size lent = do
  _ ← required (legal offset_size) (InvalidOffsetSize offset_size)
  _ ← required (legal length_size) (InvalidLengthSize length_size)
  _ ← required (slice_index numbers 1 == 0) UnsupportedFilteredHeapObject
  _ ← widths_checked 0 (field_widths offset_size length_size) numbers
  let needed = header_length offset_size length_size
  required (nat_le needed lent) (SliceTooShort needed lent)

-- the tests, then what is told of a header that is written: how many bytes it has, and its checksum
abbrev pub header_written : (header : FractalHeapHeader) (offset_size length_size lent : ℕ)
    → Result WrittenHeader FormatError
header_written header offset_size length_size lent = do
  _ ← header_checked (header_numbers header) offset_size length_size lent
  let checksum = hashlittle (unsummed header offset_size length_size)
  Ok (record { length = header_length offset_size length_size; checksum = checksum })

abbrev pub written_report : (written : WrittenHeader) → Answer
written_report written = answer 0 written.length written.checksum

-- whatever file the bytes of this header stand in, `read` is read there
abbrev pub ReadAs : (header read : FractalHeapHeader) (offset_size length_size : ℕ) → Type 0
ReadAs header read offset_size length_size = (file : List ℕ) (pos : ℕ) (rest : List ℕ)
    → drop pos file ≡ header_spelled header offset_size length_size ++ rest
    → header_at file pos offset_size length_size ≡ Ok read

-- this header is read, but for what it has of filters, which is not in its bytes
abbrev pub ReadsBack : (header : FractalHeapHeader) (offset_size length_size : ℕ) → Type 0
ReadsBack header = ReadAs header (without_filters header)

-- a header that is read from some file, whatever its place and the sizes there, is read itself
abbrev pub ParsedReadsBack : (header : FractalHeapHeader) (offset_size length_size : ℕ) → Type 0
ParsedReadsBack header offset_size length_size =
    (file : List ℕ) (pos file_offset_size file_length_size : ℕ)
    → header_at file pos file_offset_size file_length_size ≡ Ok header
    → ReadAs header header offset_size length_size

-- wherever this header is read from a file, and has no filters, it is written into all that is long
-- enough, `new` at the end, and the bytes are the file's
abbrev pub WrittenBack : (header : FractalHeapHeader) (offset_size length_size : ℕ)
    (result : Result WrittenHeader FormatError) (new : List ℕ) → Type 0
WrittenBack header offset_size length_size result new = (file : List ℕ) (pos : ℕ)
    → ((j : ℕ) → slice_index file j < 256)
    → header_at file pos offset_size length_size ≡ Ok header
    → header.io_filter_encoded_length ≡ 0 → header_length offset_size length_size ≤ length new
    → IsOk result
    × (take (header_length offset_size length_size) new
    ≡ take (header_length offset_size length_size) (drop pos file))
