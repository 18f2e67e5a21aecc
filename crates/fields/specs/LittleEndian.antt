-- Little-endian numbers at a place of a list of bytes.
-- HDF5 File Format Specification 3.0, I.A: fields are unsigned, those of metadata little-endian.
use Rattle.std.specs.Prelude.{ℕ, zero, suc, ◌+◌, ◌*◌, ◌/◌, ◌%◌, List, [], ◌∷◌, ◌++◌, length}
use Rattle.std.specs.Prelude.{take, drop}

-- so many low bytes of the number, the lowest first
unfoldable pub le : (width number : ℕ) → List ℕ
le zero number = []
le (suc width) number = number % 256 ∷ le width (number / 256)

-- the number that these bytes are, the lowest first
unfoldable pub value : (bytes : List ℕ) → ℕ
value [] = 0
value (byte ∷ bytes) = byte + value bytes * 256

-- the number in the bytes from the place on
unfoldable pub le_at : (bytes : List ℕ) (place width : ℕ) → ℕ
le_at bytes place width = value (take width (drop place bytes))

-- the list with `stored` in the place of its bytes, or numbers, from the place on
unfoldable pub put : (list : List ℕ) (place : ℕ) (stored : List ℕ) → List ℕ
put list place stored = take place list ++ stored ++ drop (place + length stored) list
