-- How the C functions that parse a header hand it out: its fields as numbers in a lent list.
use Rattle.std.specs.Prelude.{ℕ, Bool, List, length, nat_lt, if◌then◌else◌, Result}
use Rattle.fields.specs.LittleEndian.{put}
use Rattle.refusals.specs.Refusals.{slice_too_short, test_report}
use Rattle.refusals.specs.declared.answer.Answer.{Answer}
use Rattle.refusals.specs.declared.FormatError.{FormatError}
use Rattle.fractal_heap.specs.declared.header.FractalHeapHeader.{FractalHeapHeader}
use Rattle.fractal_heap.specs.Header.{parsed_numbers, number_count}

-- a list that has not so many places
abbrev pub is_short : (count : ℕ) (list : List ℕ) → Bool
is_short count list = nat_lt (length list) count

-- the fields and what is kept of the filters, in the first places
abbrev pub listed : (list : List ℕ) (header : FractalHeapHeader) → List ℕ
listed list header = put list 0 (parsed_numbers header)

-- a header that is accepted has no values but those in the list
abbrev pub header_report : (parsed : Result FractalHeapHeader FormatError) → Answer
header_report = test_report

-- a list that is too short gives 13
abbrev pub header_number : (list : List ℕ) (parsed : Result FractalHeapHeader FormatError) → ℕ
header_number list parsed =
    if is_short number_count list then slice_too_short else (header_report parsed).number
