-- What the C functions over objects for tests and tools hand back beyond an answer in its slot.
use Rattle.std.specs.Prelude.{ℕ, ◌*◌, ◌/◌, Bool, List, ◌++◌, length, drop, nat_lt, if◌then◌else◌}
use Rattle.std.specs.Prelude.{Result, Ok, Err}
use Rattle.refusals.specs.Refusals.{slice_too_short, test_report}
use Rattle.refusals.specs.declared.FormatError.{FormatError}
use Rattle.table.specs.Table.{fixed}
use Rattle.fields.specs.declared.place.Place.{Place}
use Rattle.ids.specs.Checks.{id_length}
use Rattle.fractal_heap.specs.declared.header.FractalHeapHeader.{FractalHeapHeader}
use Rattle.tools_c.specs.ObjectNumbers.{answer_places, answers_from}

-- how many IDs the list holds
abbrev pub id_count : (ids : List ℕ) → ℕ
id_count ids = length ids / id_length fixed

-- whether the list is too short for all answers
abbrev pub too_few : (found ids : List ℕ) → Bool
too_few found ids = nat_lt (length found / answer_places) (id_count ids)

-- then its number, else 0 or that of the header's refusal
abbrev pub each_number : (found ids : List ℕ) (parsed : Result FractalHeapHeader FormatError) → ℕ
each_number found ids parsed =
    if too_few found ids
    then slice_too_short
    else (test_report parsed).number

-- the answers in the first places, each answered so by the header and the ID
abbrev pub each_by : (found ids : List ℕ)
    (answered : (header : FractalHeapHeader) (id : List ℕ) → Result Place FormatError)
    (parsed : Result FractalHeapHeader FormatError) → List ℕ
each_by found ids answered (Ok header) =
    answers_from (answered header) (id_count ids) ids
    ++ drop (answer_places * id_count ids) found
each_by found ids answered (Err refused) = found

-- a list that is too short is as it was
abbrev pub each_list : (found ids : List ℕ)
    (answered : (header : FractalHeapHeader) (id : List ℕ) → Result Place FormatError)
    (parsed : Result FractalHeapHeader FormatError) → List ℕ
each_list found ids answered parsed =
    if too_few found ids then found else each_by found ids answered parsed
