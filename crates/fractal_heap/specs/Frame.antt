-- What frames a header. HDF5 File Format Specification 3.0, III.G, 'Fractal Heap Header'
-- (Signature and Version at its start, Checksum at its end). What the checksum covers the text does
-- not say: the original.
use Rattle.std.specs.Prelude.{ℕ, ◌+◌, ◌-◌, List, ◌==◌, slice_index, take, drop, bytes_eq}
use Rattle.std.specs.Prelude.{Result, Ok}
use Rattle.fields.specs.LittleEndian.{le_at}
use Rattle.fields.specs.Signatures.{header_signature}
use Rattle.fields.specs.Fields.{len_ensured}
use Rattle.refusals.specs.Steps.{◌>>=◌, required}
use Rattle.refusals.specs.declared.FormatError.{FormatError}
use Rattle.refusals.specs.declared.FormatError.TheVariants.{InvalidFractalHeapSignature}
use Rattle.refusals.specs.declared.FormatError.TheVariants.{InvalidFractalHeapVersion}
use Rattle.refusals.specs.declared.FormatError.TheVariants.{ChecksumMismatch}
use Rattle.checksum.specs.Lookup3.{hashlittle}

-- Signature FRHP and Version 0 stand at `pos`: where the first field begins
abbrev pub start_checked : (file : List ℕ) (pos : ℕ) → Result ℕ FormatError
start_checked file pos = do
  _ ← len_ensured file pos 5
  _ ← required (bytes_eq (take 4 (drop pos file)) header_signature) InvalidFractalHeapSignature
  let version = slice_index file (pos + 4)
  _ ← required (version == 0) (InvalidFractalHeapVersion version)
  Ok (pos + 5)

-- Checksum at `place` is that of all bytes of the header at `pos` before it
abbrev pub sum_checked : (file : List ℕ) (pos place : ℕ) → Result (Unit {0}) FormatError
sum_checked file pos place = do
  _ ← len_ensured file place 4
  let stored = le_at file place 4
  let computed = hashlittle (take (place - pos) (drop pos file))
  required (computed == stored) (ChecksumMismatch stored computed)
