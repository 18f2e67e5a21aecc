-- The type of a heap ID. HDF5 File Format Specification 3.0, III.G, 'Fractal Heap ID for Managed
-- Objects', '.. for Huge Objects': Version and Type; '.. for Tiny Objects': Version, Type, and
-- Length.
use Rattle.std.specs.Prelude.{ℕ, ◌/◌, ◌%◌, ◌==◌, List, [], ◌∷◌, if◌then◌else◌, Result, Ok, Err}
use Rattle.refusals.specs.Refusals.{answer}
use Rattle.refusals.specs.declared.answer.Answer.{Answer}
use Rattle.refusals.specs.declared.FormatError.{FormatError}
use Rattle.refusals.specs.declared.FormatError.TheVariants.{UnexpectedEof, InvalidHeapIdType}
use Rattle.ids.specs.declared.decode.types.HeapIdType.{HeapIdType}
use Rattle.ids.specs.declared.decode.types.HeapIdType.TheVariants.{Managed, Huge, Tiny}

-- an ID's type: bits 4 and 5 of its first byte; the version in bits 6 and 7 is not heeded
-- (docs/DIFFERENCES.md)
abbrev pub type_of : (byte : ℕ) → ℕ
type_of byte = byte / 16 % 4

abbrev pub type_named : (kind : ℕ) → Result HeapIdType FormatError
type_named kind =
    if kind == 0 then Ok Managed
    else if kind == 1 then Ok Huge
    else if kind == 2 then Ok Tiny
    else Err (InvalidHeapIdType kind)

abbrev pub id_type : (id : List ℕ) → Result HeapIdType FormatError
id_type [] = Err (UnexpectedEof 1 0)
id_type (byte ∷ bytes) = type_named (type_of byte)

-- a type is reported by its two bits
abbrev pub type_report : (kind : HeapIdType) → Answer
type_report Managed = answer 0 0 0
type_report Huge = answer 0 1 0
type_report Tiny = answer 0 2 0
