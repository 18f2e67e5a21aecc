-- How a case is answered, by the definitions of reading, and whether its head records that.
use Rattle.std.specs.Prelude.{ℕ, List, Bool, ◌&&◌, not, ◌==◌, if◌then◌else◌, Result}
use Rattle.refusals.specs.Refusals.{report_of}
use Rattle.refusals.specs.declared.FormatError.{FormatError}
use Rattle.ids.specs.IdTypes.{id_type, type_report}
use Rattle.ids.specs.Decoded.{id_report}
use Rattle.ids.specs.Tiny.{tiny_at}
use Rattle.ids.specs.declared.decode.ManagedId.{ManagedId}
use Rattle.fields.specs.Places.{place_report}
use Rattle.fields.specs.declared.place.Place.{Place}
use Rattle.fractal_heap.specs.Header.{header_at}
use Rattle.fractal_heap.specs.Read.{id_by, unchecked_by}
use Rattle.fractal_heap.specs.declared.header.FractalHeapHeader.{FractalHeapHeader}
use Rattle.run_reads.specs.Head.{kind_in, offset_size_in, length_size_in, read_size_in}
use Rattle.run_reads.specs.Head.{id_length_in, header_place_in}
use Rattle.run_reads.specs.Cases.{head_in, file_in, id_in}
use Rattle.run_reads.specs.Recorded.{is_answer, is_parsed}

-- the header of the file
abbrev pub file_header : (head file : List ℕ) → Result FractalHeapHeader FormatError
file_header head file =
    header_at file (header_place_in head) (offset_size_in head) (length_size_in head)

-- a managed ID by it
abbrev pub id_of : (head file id : List ℕ) → Result ManagedId FormatError
id_of head file id =
    id_by file (header_place_in head) (offset_size_in head) (length_size_in head) id

-- a managed object by it
abbrev pub object_of : (head file id : List ℕ) → Result Place FormatError
object_of head file id =
    unchecked_by file (header_place_in head) (offset_size_in head) (length_size_in head) id
    (read_size_in head)

-- a tiny object
abbrev pub tiny_of : (head id : List ℕ) → Result Place FormatError
tiny_of head id = tiny_at (id_length_in head) id

-- the answer to this kind is the recorded one
abbrev pub answered_as_recorded : (head file id : List ℕ) → Bool
answered_as_recorded head file id =
    if kind_in head == 0 then is_parsed head (file_header head file)
    else if kind_in head == 1 then is_answer head (report_of id_report (id_of head file id))
    else if kind_in head == 2 then is_answer head (report_of place_report (object_of head file id))
    else if kind_in head == 3 then is_answer head (report_of place_report (tiny_of head id))
    else is_answer head (report_of type_report (id_type id))

-- a case is of a kind; and it is answered otherwise than recorded
abbrev pub asks : (kind : ℕ) (head : List ℕ) → Bool
asks kind head = kind_in head == kind

abbrev pub answers_otherwise : (kind : ℕ) (head file id : List ℕ) → Bool
answers_otherwise kind head file id = asks kind head && not (answered_as_recorded head file id)

-- the same of the case in front of a list
abbrev pub is_of : (kind : ℕ) (list : List ℕ) → Bool
is_of kind list = asks kind (head_in list)

abbrev pub differs : (kind : ℕ) (list : List ℕ) → Bool
differs kind list = answers_otherwise kind (head_in list) (file_in list) (id_in list)
