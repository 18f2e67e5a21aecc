-- Where an object of a heap lies, from the root block down, as the original walks. HDF5 File Format
-- Specification 3.0, III.G, 'Fractal Heap Header': Address of Root Block, Current # of Rows in Root
-- Indirect Block. `offset_size` is Size of Offsets; sought are the `len` bytes at heap offset
-- `target`.
use Rattle.std.specs.Prelude.{ℕ, zero, suc, ◌+◌, ◌-◌, ◌^◌, ◌==◌, List, not, nat_le, length}
use Rattle.std.specs.Prelude.{if◌then◌else◌, Option, Some, None, Result, Ok, Err}
use Rattle.numbers.specs.Numbers.{saturated}
use Rattle.fields.specs.Fields.{len_ensured}
use Rattle.fields.specs.Undefined.{is_undefined_addr}
use Rattle.refusals.specs.Steps.{◌>>=◌, required}
use Rattle.refusals.specs.declared.FormatError.{FormatError}
use Rattle.refusals.specs.declared.FormatError.TheVariants.{UnexpectedEof, OffsetOverflow}
use Rattle.refusals.specs.declared.FormatError.TheVariants.{DepthExceeded}
use Rattle.reading.specs.declared.rows.DoublingTable.{DoublingTable}
use Rattle.reading.specs.declared.children.HeapChild.{HeapChild}
use Rattle.reading.specs.declared.children.HeapChild.TheVariants.{Direct, Indirect}
use Rattle.reading.specs.Blocks.{child_at}
use Rattle.fields.specs.declared.place.Place.{Place}

-- the object in the direct block at this address that begins at heap offset start; none of the
-- block's fields is heeded
abbrev pub direct_at : (file : List ℕ) (address start target len : ℕ) → Result Place FormatError
direct_at file address start target len = do
  let distance = target - start
  _ ← required (nat_le distance (2 ^ 64 - 1 - address)) (OffsetOverflow address distance)
  _ ← len_ensured file (address + distance) len
  Ok (record { position = address + distance; length = len })

-- how a walk takes the blocks that it comes to
pub record Taking : Type 0 where
  -- whether a child may be sought in the indirect block of so many rows at this address that begins
  -- at heap offset start
  pub opened : (address rows start : ℕ) → Result (Unit {0}) FormatError
  -- the object in the direct block of this size at this address that begins at heap offset start
  pub object : (address size start : ℕ) → Result Place FormatError

-- every block as it stands
abbrev pub unchecked : (file : List ℕ) (target len : ℕ) → Taking
unchecked file target len = record {
  opened = λ address rows start. Ok tt;
  object = λ address size start. direct_at file address start target len;
}

-- what follows a child, or none
abbrev pub by_child : (child : Option HeapChild)
    (direct : (address size start : ℕ) → Result Place FormatError)
    (indirect : (address rows start : ℕ) → Result Place FormatError) (missing : FormatError)
    → Result Place FormatError
by_child (Some (Direct address size start)) direct indirect missing = direct address size start
by_child (Some (Indirect address rows start)) direct indirect missing = indirect address rows start
by_child None direct indirect missing = Err missing

-- how many indirect blocks a walk comes to at most: the original's depth counter at the root
abbrev pub max_depth : ℕ
max_depth = 64

-- the object below an indirect block of so many rows at this address that begins at heap offset
-- start, with so many blocks to go, each taken so
unfoldable pub walk_by : (taking : Taking) (table : DoublingTable) (file : List ℕ)
    (offset_size target len to_go address rows start : ℕ) → Result Place FormatError
walk_by taking table file offset_size target len zero address rows start = Err DepthExceeded
walk_by taking table file offset_size target len (suc to_go) address rows start = do
  _ ← taking.opened address rows start
  child ← child_at table file address rows start target offset_size
  by_child child taking.object
      (λ address rows start.
      walk_by taking table file offset_size target len to_go address rows start)
      (UnexpectedEof (saturated (target + len)) (length file))

-- the object, from the root block of so many rows at this address on, each block taken so: no rows
-- mean that the root is a direct block of the starting size, at heap offset 0
abbrev pub root_by : (taking : Taking) (table : DoublingTable) (file : List ℕ)
    (address rows target len offset_size : ℕ) → Result Place FormatError
root_by taking table file address rows target len offset_size = do
  _ ← required (not (is_undefined_addr address offset_size)) (UnexpectedEof 1 0)
  if rows == 0
      then taking.object address table.starting_block_size 0
      else walk_by taking table file offset_size target len max_depth address rows 0

-- the same, every block as it stands
abbrev pub root_unchecked : (table : DoublingTable) (file : List ℕ)
    (address rows target len offset_size : ℕ) → Result Place FormatError
root_unchecked table file address rows target len offset_size =
    root_by (unchecked file target len) table file address rows target len offset_size
