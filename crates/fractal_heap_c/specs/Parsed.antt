-- What C is told of a header that it has parsed.
use Rattle.std.specs.Prelude.{ℕ, List, length, nat_lt, if◌then◌else◌, Result, Ok, Err}
use Rattle.fields.specs.Slot.{slot_size, slot_bytes}
use Rattle.refusals.specs.Refusals.{slice_too_short}
use Rattle.refusals.specs.declared.FormatError.{FormatError}
use Rattle.fractal_heap.specs.declared.header.FractalHeapHeader.{FractalHeapHeader}
use Rattle.fractal_heap.specs.Header.{number_count}
use Rattle.fractal_heap.specs.Listed.{is_short, listed, header_report, header_number}

-- 13 for a slot that is too short, then for such a list; else the refusal's number, or 0
abbrev pub parsed_number : (slot list : List ℕ) (parsed : Result FractalHeapHeader FormatError) → ℕ
parsed_number slot list parsed =
    if nat_lt (length slot) slot_size then slice_too_short else header_number list parsed

-- the refusal's pair, or two zeros; as it was where the slot or the list is too short
abbrev pub parsed_slot : (slot list : List ℕ) (parsed : Result FractalHeapHeader FormatError)
    → List ℕ
parsed_slot slot list parsed =
    if is_short number_count list then slot else slot_bytes slot (header_report parsed)

-- the fields of a header that is accepted; what is refused leaves the list as it was
abbrev pub fields_by : (list : List ℕ) (parsed : Result FractalHeapHeader FormatError) → List ℕ
fields_by list (Ok header) = listed list header
fields_by list (Err refused) = list

abbrev pub parsed_list : (slot list : List ℕ) (parsed : Result FractalHeapHeader FormatError)
    → List ℕ
parsed_list slot list parsed =
    if nat_lt (length slot) slot_size then list
    else (if is_short number_count list then list else fields_by list parsed)
