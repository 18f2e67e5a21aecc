-- The slot in which C finds an answer's two values.
use Rattle.std.specs.Prelude.{ℕ, List, ◌++◌, length, drop, nat_lt, if◌then◌else◌}
use Rattle.fields.specs.LittleEndian.{le}
use Rattle.refusals.specs.Refusals.{slice_too_short}
use Rattle.refusals.specs.declared.answer.Answer.{Answer}

-- how many bytes the two values have
abbrev pub slot_size : ℕ
slot_size = 16

-- what C gets for an answer: its number, but that of a slice too short where the slot is
abbrev pub slot_number : (slot : List ℕ) (told : Answer) → ℕ
slot_number slot told = if nat_lt (length slot) slot_size then slice_too_short else told.number

-- the slot at the end: its first bytes hold the two values, a shorter one is as it was
abbrev pub slot_bytes : (slot : List ℕ) (told : Answer) → List ℕ
slot_bytes slot told =
    if nat_lt (length slot) slot_size then slot
    else (le 8 told.first ++ le 8 told.second ++ drop slot_size slot)
