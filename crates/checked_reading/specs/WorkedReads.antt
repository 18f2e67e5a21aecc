-- Worked reads: a small heap, written out by hand from the layouts of HDF5 File Format
-- Specification 3.0, III.G, and read as it stands, damaged, and asked for otherwise. Its header, at
-- address 0x1234 of a file whose addresses have two bytes, gives it two blocks a row, of 32 bytes
-- in rows 0 and 1, where direct blocks end, and heap offsets of 16 bits. Its checksums, and those
-- that damage gives, are what lookup3.c computes.
use Rattle.std.specs.Prelude.{ℕ, ◌-◌, ◌^◌, ◌≡◌, List, [], ◌∷◌, ◌++◌, length, take}
use Rattle.std.specs.Prelude.{replicate, Result, Ok, Err}
use Rattle.fields.specs.LittleEndian.{put}
use Rattle.fields.specs.declared.place.Place.{Place}
use Rattle.refusals.specs.declared.FormatError.{FormatError}
use Rattle.refusals.specs.declared.FormatError.TheVariants.{UnexpectedEof, InvalidOffsetSize}
use Rattle.refusals.specs.declared.FormatError.TheVariants.{InvalidFractalHeapSignature}
use Rattle.refusals.specs.declared.FormatError.TheVariants.{InvalidFractalHeapVersion}
use Rattle.refusals.specs.declared.FormatError.TheVariants.{BlockChecksumMismatch, ForeignBlock}
use Rattle.reading.specs.declared.rows.DoublingTable.{DoublingTable}
use Rattle.checked_reading.specs.declared.Checked.{Checked}
use Rattle.checked_reading.specs.declared.path.BlockSite.{BlockSite}
use Rattle.checked_reading.specs.Reading.{root_checked}
use Rattle.checked_reading.specs.Path.{stopping_block}

abbrev pub small_table : DoublingTable
small_table = record {
  table_width = 2;
  starting_block_size = 32;
  max_direct_block_size = 32;
  max_heap_size = 16;
}

-- the root, an indirect block of three rows: the first slot of row 2 has a block at 25, five slots
-- are empty
abbrev pub root_block : List ℕ
root_block =
    0x46 ∷ 0x48 ∷ 0x49 ∷ 0x42 ∷ 0 ∷ 0x34 ∷ 0x12 ∷ 0 ∷ 0
    ∷ 0xFF ∷ 0xFF ∷ 0xFF ∷ 0xFF ∷ 0xFF ∷ 0xFF ∷ 0xFF ∷ 0xFF ∷ 25 ∷ 0 ∷ 0xFF ∷ 0xFF
    ∷ 0x6E ∷ 0x10 ∷ 0xD3 ∷ 0xA8 ∷ []

-- that block, at heap offset 128, an indirect one of one row: its second slot has a block at 42
abbrev pub nested_block : List ℕ
nested_block =
    0x46 ∷ 0x48 ∷ 0x49 ∷ 0x42 ∷ 0 ∷ 0x34 ∷ 0x12 ∷ 128 ∷ 0 ∷ 0xFF ∷ 0xFF ∷ 42 ∷ 0
    ∷ 0xA3 ∷ 0x4F ∷ 0xC2 ∷ 0xE3 ∷ []

-- and that one, at heap offset 160, a direct one, with the numbers 1 to 19 as its data
abbrev pub direct_block : List ℕ
direct_block =
    0x46 ∷ 0x48 ∷ 0x44 ∷ 0x42 ∷ 0 ∷ 0x34 ∷ 0x12 ∷ 160 ∷ 0 ∷ 0x4E ∷ 0xDF ∷ 0xB5 ∷ 0x40
    ∷ 1 ∷ 2 ∷ 3 ∷ 4 ∷ 5 ∷ 6 ∷ 7 ∷ 8 ∷ 9 ∷ 10 ∷ 11 ∷ 12 ∷ 13 ∷ 14 ∷ 15 ∷ 16 ∷ 17 ∷ 18 ∷ 19 ∷ []

abbrev pub small_file : List ℕ
small_file = root_block ++ nested_block ++ direct_block

-- the file with another byte at this place
abbrev pub damaged : (place byte : ℕ) → List ℕ
damaged place byte = put small_file place (byte ∷ [])

-- another heap: a block a row, of 128 bytes in rows 0 and 1, and heap offsets of eight bits, which
-- are too few for that of row 2
abbrev pub narrow_table : DoublingTable
narrow_table = record {
  table_width = 1;
  starting_block_size = 128;
  max_direct_block_size = 128;
  max_heap_size = 8;
}

-- its root, an indirect block of three rows, the last of which has a block at 18; and that one, an
-- indirect block of two rows, at heap offset 256, of which it stores the low eight bits
abbrev pub narrow_file : List ℕ
narrow_file =
    0x46 ∷ 0x48 ∷ 0x49 ∷ 0x42 ∷ 0 ∷ 0x34 ∷ 0x12 ∷ 0 ∷ 0xFF ∷ 0xFF ∷ 0xFF ∷ 0xFF ∷ 18 ∷ 0
    ∷ 0x48 ∷ 0xEB ∷ 0x89 ∷ 0xE8
    ∷ 0x46 ∷ 0x48 ∷ 0x49 ∷ 0x42 ∷ 0 ∷ 0x34 ∷ 0x12 ∷ 0 ∷ 0xFF ∷ 0xFF ∷ 0xFF ∷ 0xFF
    ∷ 0x6B ∷ 0x28 ∷ 0x06 ∷ 0x21 ∷ []

-- what a read is asked: flags and address of the header, the table, the offset size, the root's
-- address and its rows, heap offset and length of an object
pub record Asked : Type 0 where
  pub tests : Checked
  pub table : DoublingTable
  pub offset_size : ℕ
  pub root : ℕ
  pub rows : ℕ
  pub target : ℕ
  pub len : ℕ

-- what it answers in a file, and the block at which it stops
abbrev pub Answers : (asked : Asked) (file : List ℕ) (found : Result Place FormatError)
    (stop : Result BlockSite FormatError) → Type 0
Answers asked file found stop =
    (root_checked asked.tests asked.table file asked.root asked.rows asked.target asked.len
    asked.offset_size ≡ found)
    × (stopping_block asked.tests asked.table file asked.root asked.rows asked.target
    asked.offset_size ≡ stop)

abbrev pub at_header : (flags heap_header_address : ℕ) → Checked
at_header flags heap_header_address =
    record { flags = flags; heap_header_address = heap_header_address }

-- the first three bytes of the direct block's data
abbrev pub first_three : Asked
first_three = record {
  tests = at_header 2 0x1234;
  table = small_table;
  offset_size = 2;
  root = 0;
  rows = 3;
  target = 173;
  len = 3;
}

abbrev pub block_at : (address heap_offset : ℕ) → Result BlockSite FormatError
block_at address heap_offset = Ok (record { address = address; heap_offset = heap_offset })

abbrev pub found_at : (position length : ℕ) → Result Place FormatError
found_at position length = Ok (record { position = position; length = length })

pub record WorkedReads : Type 0 where
  -- as it stands, also where every other bit of Flags is set
  pub sound : Answers first_three small_file (found_at 55 3) (block_at 42 160)
  pub other_flags : Answers (record first_three { tests = at_header 0xFF 0x1234 }) small_file
      (found_at 55 3) (block_at 42 160)
  -- without the bit of value 2 a direct block's header ends four bytes earlier, and its data is not
  -- checked
  pub without_bit : Answers (record first_three { tests = at_header 0xFD 0x1234; target = 169 })
      (damaged 56 3) (found_at 51 3) (block_at 42 160)
  -- a byte of an object, and one of an address that is not followed
  pub data_damaged : Answers first_three (damaged 56 3)
      (Err (BlockChecksumMismatch 0x40B5DF4E 0x38C297A3)) (block_at 42 160)
  pub entry_damaged : Answers first_three (damaged 34 254)
      (Err (BlockChecksumMismatch 0xE3C24FA3 0x5260CB43)) (block_at 25 128)
  -- a block's version, signature and heap offset, each before the checksum
  pub version : Answers first_three (damaged 46 1) (Err (InvalidFractalHeapVersion 1))
      (block_at 42 160)
  pub signature : Answers first_three (damaged 27 0x44) (Err InvalidFractalHeapSignature)
      (block_at 25 128)
  pub misplaced : Answers first_three (damaged 49 161) (Err (ForeignBlock 161 160))
      (block_at 42 160)
  -- another header's address, also one that has the same low bytes
  pub foreign : Answers (record first_three { tests = at_header 2 0x1235 }) small_file
      (Err (ForeignBlock 0x1234 0x1235)) (block_at 0 0)
  pub foreign_by_high_bytes : Answers (record first_three { tests = at_header 2 0x11234 })
      small_file (Err (ForeignBlock 0x1234 0x11234)) (block_at 0 0)
  -- another header's address is told before another heap offset, and both before the checksum, the
  -- version before them, the signature before the version
  pub foreign_before_misplaced : Answers
      (record first_three { tests = at_header 2 0x1235; root = 42; rows = 0 }) small_file
      (Err (ForeignBlock 0x1234 0x1235)) (block_at 42 0)
  pub foreign_before_checksum : Answers (record first_three { tests = at_header 2 0x1235 })
      (damaged 24 0) (Err (ForeignBlock 0x1234 0x1235)) (block_at 0 0)
  pub version_before_foreign : Answers (record first_three { tests = at_header 2 0x1235 })
      (damaged 4 1) (Err (InvalidFractalHeapVersion 1)) (block_at 0 0)
  pub signature_before_version : Answers first_three (put (damaged 4 1) 3 (0x44 ∷ []))
      (Err InvalidFractalHeapSignature) (block_at 0 0)
  -- a heap offset of 12 bits has two bytes, and of one that its field is too small for is told what
  -- is stored
  pub twelve_bits : Answers
      (record first_three { table = record small_table { max_heap_size = 12 } }) small_file
      (found_at 55 3) (block_at 42 160)
  pub wider_than_field : Answers (record first_three { table = narrow_table; target = 256 })
      narrow_file (Err (ForeignBlock 0 256)) (block_at 18 256)
  -- the file ends in the direct block, and in the nested one
  pub cut_short : Answers first_three (take 73 small_file) (Err (UnexpectedEof 74 73))
      (block_at 42 160)
  pub cut_in_nested : Answers first_three (take 41 small_file) (Err (UnexpectedEof 42 41))
      (block_at 25 128)
  -- an object that ends with its block, and one that ends past it
  pub to_the_end : Answers (record first_three { len = 19 }) small_file (found_at 55 19)
      (block_at 42 160)
  pub past_the_end : Answers (record first_three { len = 20 }) small_file
      (Err (UnexpectedEof 33 32)) (block_at 42 160)
  pub checksum_before_end : Answers (record first_three { len = 20 }) (damaged 56 3)
      (Err (BlockChecksumMismatch 0x40B5DF4E 0x38C297A3)) (block_at 42 160)
  -- an object whose end in its block is past all 64-bit numbers
  pub longest_object : Answers (record first_three { len = 2 ^ 64 - 1 }) small_file
      (Err (UnexpectedEof (2 ^ 64 - 1) 32)) (block_at 42 160)
  -- an object for which the root has no child
  pub no_child : Answers (record first_three { target = 64 }) small_file
      (Err (UnexpectedEof 67 74)) (block_at 0 0)
  -- an object that begins in its block's header, and one of no bytes
  pub in_the_header : Answers (record first_three { target = 160 }) small_file (found_at 42 3)
      (block_at 42 160)
  pub empty_object : Answers (record first_three { len = 0 }) small_file (found_at 55 0)
      (block_at 42 160)
  -- a direct root that is smaller than its header, in a file of no bytes
  pub smaller_than_header : Answers
      (record first_three { rows = 0; table = record small_table { starting_block_size = 12 } })
      [] (Err (UnexpectedEof 13 12)) (block_at 0 0)
  -- without the bit of value 2 its header has four bytes less
  pub smaller_without_bit : Answers
      (record first_three {
        tests = at_header 0 0x1234;
        rows = 0;
        table = record small_table { starting_block_size = 8 };
      })
      [] (Err (UnexpectedEof 9 8)) (block_at 0 0)
  -- a direct root of no bytes, one of the most, and roots whose end is past all 64-bit numbers
  pub no_bytes : Answers
      (record first_three { rows = 0; table = record small_table { starting_block_size = 0 } })
      small_file (Err (UnexpectedEof 13 0)) (block_at 0 0)
  pub most_bytes : Answers
      (record first_three {
        rows = 0;
        table = record small_table { starting_block_size = 2 ^ 64 - 1 };
      })
      small_file (Err (UnexpectedEof (2 ^ 64 - 1) 74)) (block_at 0 0)
  pub at_the_last_number : Answers (record first_three { root = 2 ^ 64 - 1; rows = 0 }) small_file
      (Err (UnexpectedEof (2 ^ 64 - 1) 74)) (block_at (2 ^ 64 - 1) 0)
  pub past_all_numbers : Answers (record first_three { offset_size = 8; root = 2 ^ 64 - 2 })
      small_file (Err (UnexpectedEof (2 ^ 64 - 1) 74)) (block_at (2 ^ 64 - 2) 0)
  -- heap offsets of eight bytes, each of which counts
  pub eight_bytes : Answers
      (record first_three {
        tests = at_header 0 0x1234;
        rows = 0;
        target = 15;
        table = record small_table { max_heap_size = 64 };
      })
      (0x46 ∷ 0x48 ∷ 0x44 ∷ 0x42 ∷ 0 ∷ 0x34 ∷ 0x12 ∷ replicate 8 0 ++ replicate 17 1)
      (found_at 15 3) (block_at 0 0)
  pub eighth_byte : Answers
      (record first_three {
        tests = at_header 0 0x1234;
        rows = 0;
        target = 15;
        table = record small_table { max_heap_size = 64 };
      })
      (0x46 ∷ 0x48 ∷ 0x44 ∷ 0x42 ∷ 0 ∷ 0x34 ∷ 0x12 ∷ replicate 7 0 ++ replicate 18 1)
      (Err (ForeignBlock (2 ^ 56) 0)) (block_at 0 0)
  -- heap offsets of nine bytes, the ninth of which does not count
  pub nine_bytes : Answers
      (record first_three {
        tests = at_header 0 0x1234;
        rows = 0;
        target = 16;
        table = record small_table { max_heap_size = 72 };
      })
      (0x46 ∷ 0x48 ∷ 0x44 ∷ 0x42 ∷ 0 ∷ 0x34 ∷ 0x12 ∷ replicate 8 0 ++ replicate 17 1)
      (found_at 16 3) (block_at 0 0)
  -- no block is come to where the offset size is none, or the root undefined
  pub no_offset_size : Answers (record first_three { offset_size = 3 }) small_file
      (Err (InvalidOffsetSize 3)) (Err (InvalidOffsetSize 3))
  pub no_root : Answers (record first_three { root = 0xFFFF }) small_file
      (Err (UnexpectedEof 1 0)) (Err (UnexpectedEof 1 0))
