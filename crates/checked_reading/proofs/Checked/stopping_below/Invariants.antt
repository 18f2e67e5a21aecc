-- The last block of the whole path is the last block of the path from the block that was reached on.
use Rattle.std.proofs.Common.{◌≡◌, ◌-◌}
use Rattle.std.specs.Prelude.{Some}
use Rattle.std.specs.Option.{option_map}
use Rattle.checked_reading.specs.Path.{path_from, last_of, block_site}
use Rattle.checked_reading.proofs.Lasts.{site_from}
use Rattle.checked_reading.proofs.Checked.stopping_below.Given as goal

abbrev pub invariant-loop-depth : goal.invariant-loop-depth
invariant-loop-depth l =
    let search = l.search in
    let path = path_from l.self search.table search.file.now search.offset_size search.target in
    option_map block_site (last_of (path 64 l.root l.root_rows 0))
    ≡ Some (site_from l.last (path (64 - l._depth) l.block.address l.rows l.block.heap_offset))
