-- The worked reads are those of the definitions.
use Rattle.std.proofs.Common.{refl}
use Rattle.std.specs.Int.Count.{count_leading_zeros}
use Rattle.checksum.specs.Lookup3.{mixed_groups, switched, hashlittle}
use Rattle.fields.specs.LittleEndian.{value, le_at, put}
use Rattle.reading.specs.Rows.{heap_size}
use Rattle.reading.specs.Blocks.{slot_rows, child_in_slots}
use Rattle.reading.specs.Walk.{walk_by}
use Rattle.checked_reading.specs.Blocks.{head_checked, indirect_in, indirect_checked, direct_in, direct_checked}
use Rattle.checked_reading.specs.Reading.{object_in, object_checked}
use Rattle.checked_reading.specs.Path.{path_from, root_path, stopping_block}
use Rattle.checked_reading.specs.WorkedReads.{WorkedReads}

pub worked : WorkedReads
unfolding mixed_groups switched hashlittle value le_at put count_leading_zeros heap_size slot_rows
    child_in_slots walk_by head_checked indirect_in indirect_checked direct_in direct_checked object_in object_checked
    path_from root_path stopping_block
worked = record {
  sound = (refl, refl);
  other_flags = (refl, refl);
  without_bit = (refl, refl);
  data_damaged = (refl, refl);
  entry_damaged = (refl, refl);
  version = (refl, refl);
  signature = (refl, refl);
  misplaced = (refl, refl);
  foreign = (refl, refl);
  foreign_by_high_bytes = (refl, refl);
  foreign_before_misplaced = (refl, refl);
  foreign_before_checksum = (refl, refl);
  version_before_foreign = (refl, refl);
  signature_before_version = (refl, refl);
  twelve_bits = (refl, refl);
  wider_than_field = (refl, refl);
  cut_short = (refl, refl);
  cut_in_nested = (refl, refl);
  to_the_end = (refl, refl);
  past_the_end = (refl, refl);
  checksum_before_end = (refl, refl);
  longest_object = (refl, refl);
  no_child = (refl, refl);
  in_the_header = (refl, refl);
  empty_object = (refl, refl);
  smaller_than_header = (refl, refl);
  smaller_without_bit = (refl, refl);
  no_bytes = (refl, refl);
  most_bytes = (refl, refl);
  at_the_last_number = (refl, refl);
  past_all_numbers = (refl, refl);
  eight_bytes = (refl, refl);
  eighth_byte = (refl, refl);
  nine_bytes = (refl, refl);
  no_offset_size = (refl, refl);
  no_root = (refl, refl);
}
