-- The path of a read: the blocks that it tests, root first, up to the one that has the object, or
-- is refused, or has no child for it. The last of them is the block at which the read stops. Where
-- the depth is used up (10) it is the 64th, the last that was tested: its child is not come to.
use Rattle.std.specs.Prelude.{ℕ, zero, suc, ◌==◌, List, [], ◌∷◌, take, drop, not, ◌&&◌}
use Rattle.std.specs.Prelude.{if◌then◌else◌, Option, Some, None, Result, Ok, Err}
use Rattle.std.specs.Option.{option_map, ok_or}
use Rattle.fields.specs.Undefined.{is_undefined_addr}
use Rattle.fields.specs.Widths.{legal}
use Rattle.refusals.specs.Refusals.{answer}
use Rattle.refusals.specs.declared.answer.Answer.{Answer}
use Rattle.refusals.specs.declared.FormatError.{FormatError}
use Rattle.refusals.specs.declared.FormatError.TheVariants.{UnexpectedEof, InvalidOffsetSize}
use Rattle.reading.specs.declared.rows.DoublingTable.{DoublingTable}
use Rattle.reading.specs.declared.children.HeapChild.{HeapChild}
use Rattle.reading.specs.declared.children.HeapChild.TheVariants.{Direct, Indirect}
use Rattle.reading.specs.Blocks.{child_at}
use Rattle.reading.specs.Walk.{max_depth}
use Rattle.checked_reading.specs.declared.Checked.{Checked}
use Rattle.checked_reading.specs.declared.path.BlockSite.{BlockSite}
use Rattle.checked_reading.specs.Blocks.{indirect_size, indirect_checked}

-- a block: its address, the heap offset at which it begins, and how many bytes it has
pub record Block : Type 0 where
  pub address : ℕ
  pub heap_offset : ℕ
  pub size : ℕ

abbrev pub block_of : (address heap_offset size : ℕ) → Block
block_of address heap_offset size =
    record { address = address; heap_offset = heap_offset; size = size }

-- its bytes in a file
abbrev pub bytes_of : (block : Block) (file : List ℕ) → List ℕ
bytes_of block file = take block.size (drop block.address file)

-- the blocks behind one that is tested: none where it is refused
abbrev pub if_passed : (tested : Result (Unit {0}) FormatError) (behind : List Block) → List Block
if_passed (Ok tt) behind = behind
if_passed (Err e) behind = []

-- the blocks from a child on: a direct block is the last
abbrev pub from_child : (child : Result (Option HeapChild) FormatError)
    (indirect : (address rows start : ℕ) → List Block) → List Block
from_child (Ok (Some (Direct address size start))) indirect = block_of address start size ∷ []
from_child (Ok (Some (Indirect address rows start))) indirect = indirect address rows start
from_child (Ok None) indirect = []
from_child (Err e) indirect = []

-- from the indirect block of so many rows at this address on that is to begin at heap offset start,
-- with so many blocks to go
unfoldable pub path_from : (tests : Checked) (table : DoublingTable) (file : List ℕ)
    (offset_size target to_go address rows start : ℕ) → List Block
path_from tests table file offset_size target zero address rows start = []
path_from tests table file offset_size target (suc to_go) address rows start =
    block_of address start (indirect_size table offset_size rows)
    ∷ if_passed (indirect_checked tests table file offset_size address rows start)
    (from_child (child_at table file address rows start target offset_size)
    (λ address rows start.
    path_from tests table file offset_size target to_go address rows start))

-- from the root block of so many rows at this address on; without an offset size, or a root, it has
-- no block
unfoldable pub root_path : (tests : Checked) (table : DoublingTable) (file : List ℕ)
    (address rows target offset_size : ℕ) → List Block
root_path tests table file address rows target offset_size =
    if legal offset_size && not (is_undefined_addr address offset_size) then
    (if rows == 0
    then block_of address 0 table.starting_block_size ∷ []
    else path_from tests table file offset_size target max_depth address rows 0)
    else []

-- ---- the last block

-- the last of a block and those behind it
abbrev pub last_from : (block : Block) (behind : List Block) → Block
last_from block [] = block
last_from block (next ∷ behind) = last_from next behind

abbrev pub last_of : (path : List Block) → Option Block
last_of [] = None
last_of (block ∷ behind) = Some (last_from block behind)

-- those before the last
abbrev pub before_last : (block : Block) (behind : List Block) → List Block
before_last block [] = []
before_last block (next ∷ behind) = block ∷ before_last next behind

abbrev pub all_but_last : (path : List Block) → List Block
all_but_last [] = []
all_but_last (block ∷ behind) = before_last block behind

abbrev pub block_site : (block : Block) → BlockSite
block_site block = record { address = block.address; heap_offset = block.heap_offset }

-- what refuses a read that comes to no block
abbrev pub refused_before : (address offset_size : ℕ) → FormatError
refused_before address offset_size =
    if is_undefined_addr address offset_size
    then UnexpectedEof 1 0
    else InvalidOffsetSize offset_size

-- the block at which a read stops; where it comes to none, its refusal
unfoldable pub stopping_block : (tests : Checked) (table : DoublingTable) (file : List ℕ)
    (address rows target offset_size : ℕ) → Result BlockSite FormatError
stopping_block tests table file address rows target offset_size =
    let path = root_path tests table file address rows target offset_size in
    ok_or (option_map block_site (last_of path)) (refused_before address offset_size)

-- address and heap offset
abbrev pub site_report : (site : BlockSite) → Answer
site_report site = answer 0 site.address site.heap_offset
