-- Answers that C functions for tests and tools put into a lent list.
use Rattle.std.specs.Prelude.{ℕ, List, [], ◌∷◌, length, nat_lt, if◌then◌else◌, Result, Ok, Err}
use Rattle.fields.specs.LittleEndian.{put}
use Rattle.refusals.specs.Refusals.{refusal, slice_too_short, test_report}
use Rattle.refusals.specs.declared.answer.Answer.{Answer}
use Rattle.refusals.specs.declared.FormatError.{FormatError}

-- a refusal's two values
abbrev pub pair_of : (refused : Answer) → List ℕ
pair_of refused = refused.first ∷ refused.second ∷ []

-- 13 where the list is shorter than so many places, else the refusal's number, or 0
abbrev pub listed_number : {T : Type 0} (places : ℕ) (list : List ℕ)
    (result : Result T FormatError) → ℕ
listed_number places list result =
    if nat_lt (length list) places then slice_too_short else (test_report result).number

-- the numbers, or the refusal's two values, in the first places
abbrev pub told_by : {T : Type 0} (numbers : T → List ℕ) (list : List ℕ)
    (result : Result T FormatError) → List ℕ
told_by numbers list (Ok value) = put list 0 (numbers value)
told_by numbers list (Err e) = put list 0 (pair_of (refusal e))

-- a list that is too short is as it was
abbrev pub listed_by : {T : Type 0} (places : ℕ) (numbers : T → List ℕ) (list : List ℕ)
    (result : Result T FormatError) → List ℕ
listed_by places numbers list result =
    if nat_lt (length list) places then list else told_by numbers list result
