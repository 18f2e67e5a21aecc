-- What holds of checked reading, for every header: any flags, any table, any root.
use Rattle.std.specs.Prelude.{ℕ, ◌+◌, ◌^◌, ◌≤◌, ◌<◌, ◌≡◌, List, length, take, drop, All, IsSomeAnd}
use Rattle.std.specs.Prelude.{Ok, Err, true, false, nat_le}
use Rattle.fields.specs.declared.place.Place.{Place}
use Rattle.refusals.specs.declared.FormatError.{FormatError}
use Rattle.refusals.specs.declared.FormatError.TheVariants.{UnexpectedEof, InvalidOffsetSize}
use Rattle.numbers.specs.Numbers.{saturated}
use Rattle.fields.specs.Undefined.{is_undefined_addr}
use Rattle.fields.specs.Widths.{legal}
use Rattle.reading.specs.declared.rows.DoublingTable.{DoublingTable}
use Rattle.reading.specs.Walk.{root_unchecked}
use Rattle.checked_reading.specs.declared.Checked.{Checked}
use Rattle.checked_reading.specs.Reading.{root_checked}
use Rattle.checked_reading.specs.Blocks.{indirect_size, indirect_checked, direct_checked}
use Rattle.checked_reading.specs.Path.{Block, bytes_of, root_path, last_of, all_but_last}
use Rattle.checked_reading.specs.Path.{stopping_block}

-- checking only refuses: what is found is what is found without tests
abbrev pub OnlyRefuses : Type 0
OnlyRefuses =
    (tests : Checked) (table : DoublingTable) (file : List ℕ)
    (address rows target len offset_size : ℕ) (place : Place) → length file < 2 ^ 64
    → root_checked tests table file address rows target len offset_size ≡ Ok place
    → root_unchecked table file address rows target len offset_size ≡ Ok place

-- two files have the same bytes in each block of a path
abbrev pub SameBlocks : (file other : List ℕ) (path : List Block) → Type 0
SameBlocks file other path = All (λ block. bytes_of block file ≡ bytes_of block other) path

-- the bytes of an object
abbrev pub object_of : (place : Place) (file : List ℕ) → List ℕ
object_of place file = take place.length (drop place.position file)

-- the path decides: a file of equal length that has the same blocks on a read's path has the same
-- answer, refused or not, and where an object is found the same bytes of it
pub record PathDecides : Type 0 where
  pub answer : (tests : Checked) (table : DoublingTable) (file other : List ℕ)
      (address rows target len offset_size : ℕ) → length file ≡ length other
      → SameBlocks file other (root_path tests table file address rows target offset_size)
      → root_checked tests table file address rows target len offset_size
      ≡ root_checked tests table other address rows target len offset_size
  pub bytes : (tests : Checked) (table : DoublingTable) (file other : List ℕ)
      (address rows target len offset_size : ℕ) (place : Place) → length file ≡ length other
      → SameBlocks file other (root_path tests table file address rows target offset_size)
      → root_checked tests table file address rows target len offset_size ≡ Ok place
      → object_of place file ≡ object_of place other

-- the place lies in the block, and the block in the file
pub record InBlock (file : List ℕ) (place : Place) (block : Block) : Type 0 where
  pub begins : block.address ≤ place.position
  pub ends : place.position + place.length ≤ block.address + block.size
  pub within : block.address + block.size ≤ length file

-- what is found lies in the last block of the read's path
abbrev pub ObjectInBlock : Type 0
ObjectInBlock =
    (tests : Checked) (table : DoublingTable) (file : List ℕ)
    (address rows target len offset_size : ℕ) (place : Place)
    → root_checked tests table file address rows target len offset_size ≡ Ok place
    → IsSomeAnd (last_of (root_path tests table file address rows target offset_size))
    (InBlock file place)

-- an indirect block of a path, of some rows, passes its tests
pub record Passes (tests : Checked) (table : DoublingTable) (file : List ℕ) (offset_size : ℕ)
    (block : Block) : Type 0 where
  pub rows : ℕ
  pub size : block.size ≡ indirect_size table offset_size rows
  pub passed : indirect_checked tests table file offset_size block.address rows block.heap_offset
      ≡ Ok tt

-- a read goes on only behind a block that passes: all blocks of its path but the last do
abbrev pub OthersPass : Type 0
OthersPass =
    (tests : Checked) (table : DoublingTable) (file : List ℕ)
    (address rows target offset_size : ℕ)
    → All (Passes tests table file offset_size)
    (all_but_last (root_path tests table file address rows target offset_size))

-- a read that comes to no block is refused as `stopping_block` tells
abbrev pub StopsAreRefusals : Type 0
StopsAreRefusals =
    (tests : Checked) (table : DoublingTable) (file : List ℕ)
    (address rows target len offset_size : ℕ) (refused : FormatError)
    → stopping_block tests table file address rows target offset_size ≡ Err refused
    → root_checked tests table file address rows target len offset_size ≡ Err refused

-- the other way round: where a read is refused before its first block, for an undefined root or for
-- an offset size that is none, no block is told but this refusal
pub record NoBlockIsTold : Type 0 where
  pub undefined_root : (tests : Checked) (table : DoublingTable) (file : List ℕ)
      (address rows target offset_size : ℕ) → is_undefined_addr address offset_size ≡ true
      → stopping_block tests table file address rows target offset_size ≡ Err (UnexpectedEof 1 0)
  pub no_offset_size : (tests : Checked) (table : DoublingTable) (file : List ℕ)
      (address rows target offset_size : ℕ) → legal offset_size ≡ false
      → stopping_block tests table file address rows target offset_size
      ≡ Err (InvalidOffsetSize offset_size)

-- an object's end in its block past 2^64 - 1 counts as that number: cut to it, the end is compared
-- as it is, in a block that has passed its tests, in every file that is short enough to be lent
abbrev pub EndsAreCut : Type 0
EndsAreCut =
    (tests : Checked) (table : DoublingTable) (file : List ℕ)
    (offset_size address size start distance len : ℕ) → length file < 2 ^ 63
    → direct_checked tests table file offset_size address size start ≡ Ok tt
    → nat_le (saturated (distance + len)) size ≡ nat_le (distance + len) size
