-- Steps through a header: each gives what stands at `pos` of the file, and where the next field
-- begins. A field that is not all there is refused, with the end that it would have.
use Rattle.std.specs.Prelude.{ℕ, ◌+◌, List, Result, Ok}
use Rattle.fields.specs.LittleEndian.{le_at}
use Rattle.refusals.specs.Steps.{◌>>=◌}
use Rattle.refusals.specs.declared.FormatError.{FormatError}
use Rattle.fields.specs.Fields.{plain_at, offset_at, length_at}

-- a value, and where the next field begins
abbrev pub Step : (T : Type 0) → Type 0
Step T = Result (T × ℕ) FormatError

-- the number of `width` bytes, where the width is known
abbrev pub plain_field : (file : List ℕ) (pos width : ℕ) → Step ℕ
plain_field file pos width = do
  number ← plain_at file pos width
  Ok (number, pos + width)

-- an address, a field marked O
abbrev pub offset_field : (file : List ℕ) (pos offset_size : ℕ) → Step ℕ
offset_field file pos offset_size = do
  address ← offset_at file pos offset_size
  Ok (address, pos + offset_size)

-- a length, a field marked L
abbrev pub length_field : (file : List ℕ) (pos length_size : ℕ) → Step ℕ
length_field file pos length_size = do
  number ← length_at file pos length_size
  Ok (number, pos + length_size)

-- the number of `width` bytes, of which nothing is tested: another test says that they are there
abbrev pub untested_field : (file : List ℕ) (pos width : ℕ) → Step ℕ
untested_field file pos width = Ok (le_at file pos width, pos + width)

-- a step whose number is taken up into a value
infixl 20 ◌into◌
abbrev pub ◌into◌ : {T : Type 0} (step : Step ℕ) (take_up : ℕ → T) → Step T
step into take_up = do
  (number, pos) ← step
  Ok (take_up number, pos)
