-- What the C functions over slots hand back.
use Rattle.std.specs.Prelude.{ℕ, List, [], ◌∷◌, length, nat_lt, if◌then◌else◌}
use Rattle.std.specs.Prelude.{Option, Some, None, Result, Ok, Err}
use Rattle.fields.specs.LittleEndian.{put}
use Rattle.refusals.specs.Refusals.{answer, refusal, report_of, slice_too_short, test_report}
use Rattle.refusals.specs.declared.answer.Answer.{Answer}
use Rattle.refusals.specs.declared.FormatError.{FormatError}
use Rattle.table.specs.declared.Slot.{Slot}
use Rattle.slot_engines.specs.Engines.{agreed}
use Rattle.slot_engines.specs.declared.way.EnteredBlock.{EnteredBlock}

-- a slot's heap offset and bytes
abbrev pub slot_report : (slot : Slot) → Answer
slot_report slot = answer 0 slot.start slot.size

-- how many numbers both answers are told by
abbrev pub asked_places : ℕ
asked_places = 7

-- number and pair of both answers, and 1 where they name the same slot, else 0
abbrev pub asked_numbers : (counted located : Result Slot FormatError) → List ℕ
asked_numbers counted located =
    let one = report_of slot_report counted in
    let other = report_of slot_report located in
    one.number ∷ one.first ∷ one.second ∷ other.number ∷ other.first ∷ other.second
    ∷ (if agreed counted located then 1 else 0) ∷ []

-- a list that is too short is as it was
abbrev pub asked_by : (list : List ℕ) (counted located : Result Slot FormatError) → List ℕ
asked_by list counted located =
    if nat_lt (length list) asked_places then list else put list 0 (asked_numbers counted located)

-- how many numbers a block on the way is told by
abbrev pub entered_places : ℕ
entered_places = 4

-- 1 and the block's three numbers, or four zeros where the way is shorter
abbrev pub entered_numbers : (entered : Option EnteredBlock) → List ℕ
entered_numbers (Some block) = 1 ∷ block.row ∷ block.col ∷ block.start ∷ []
entered_numbers None = 0 ∷ 0 ∷ 0 ∷ 0 ∷ []
