-- What C is told of a header to be written.
use Rattle.std.specs.Prelude.{ℕ, ◌==◌, List, length, nat_lt, if◌then◌else◌}
use Rattle.fields.specs.Slot.{slot_size, slot_bytes}
use Rattle.refusals.specs.Refusals.{slice_too_short, report_of}
use Rattle.refusals.specs.declared.answer.Answer.{Answer}
use Rattle.fractal_heap.specs.Header.{header_of, field_count}
use Rattle.fractal_heap.specs.Listed.{is_short}
use Rattle.fractal_heap.specs.Writing.{header_written, written_report}

-- length and checksum, or the refusal
abbrev pub header_answer : (numbers : List ℕ) (offset_size length_size lent : ℕ) → Answer
header_answer numbers offset_size length_size lent =
    report_of written_report (header_written (header_of numbers) offset_size length_size lent)

-- 13 for a slot that is too short, then for such a list; else the answer's number
abbrev pub written_header_number : (slot numbers : List ℕ) (offset_size length_size lent : ℕ) → ℕ
written_header_number slot numbers offset_size length_size lent =
    if nat_lt (length slot) slot_size then slice_too_short
    else (
    if is_short field_count numbers then slice_too_short
    else (header_answer numbers offset_size length_size lent).number)

-- the slot at the end: 13 is the number alone, whatever is too short, and the slot is then as it
-- was
abbrev pub written_header_slot : (slot numbers : List ℕ) (offset_size length_size lent : ℕ)
    → List ℕ
written_header_slot slot numbers offset_size length_size lent =
    if written_header_number slot numbers offset_size length_size lent == slice_too_short then slot
    else slot_bytes slot (header_answer numbers offset_size length_size lent)
