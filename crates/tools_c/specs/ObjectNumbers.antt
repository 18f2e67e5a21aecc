-- The answers for a list of IDs as numbers.
use Rattle.std.specs.Prelude.{ℕ, zero, suc, List, [], ◌∷◌, ◌++◌, take, drop, Result}
use Rattle.refusals.specs.Refusals.{report_of}
use Rattle.refusals.specs.declared.answer.Answer.{Answer}
use Rattle.refusals.specs.declared.FormatError.{FormatError}
use Rattle.table.specs.Table.{fixed}
use Rattle.fields.specs.Places.{place_report}
use Rattle.fields.specs.declared.place.Place.{Place}
use Rattle.ids.specs.Checks.{id_length}

-- how many numbers an answer is told by
abbrev pub answer_places : ℕ
answer_places = 3

-- an answer as its numbers
abbrev pub three_of : (told : Answer) → List ℕ
three_of told = told.number ∷ told.first ∷ told.second ∷ []

-- the answers for so many IDs of eight bytes, each answered so
unfoldable pub answers_from : (answered : (id : List ℕ) → Result Place FormatError) (count : ℕ)
    (ids : List ℕ) → List ℕ
answers_from answered zero ids = []
answers_from answered (suc count) ids =
    three_of (report_of place_report (answered (take (id_length fixed) ids)))
    ++ answers_from answered count (drop (id_length fixed) ids)
