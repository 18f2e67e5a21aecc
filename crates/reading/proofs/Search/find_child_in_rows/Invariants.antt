-- The search of the slots to come is that of all slots.
use Rattle.std.proofs.Common.{◌-◌, ◌+◌, ◌^◌, ◌<◌, ◌≡◌, ◌++◌, replicate}
use Rattle.reading.specs.Blocks.{slot_rows, child_in_slots}
use Rattle.reading.proofs.Search.find_child_in_rows.Given as goal

abbrev pub invariant-loop-row : goal.invariant-loop-row
invariant-loop-row l =
    let search = child_in_slots l.self.table l.block l.self.offset_size l.self.target in
    let to_come = slot_rows l.self.table (l.nrows - l.row) l.row in
    record {
      fits : l.heap_offset < 2 ^ 64;
      rest : search (slot_rows l.self.table l.nrows 0) l.at l.start ≡ search to_come l.pos l.heap_offset;
    }

abbrev pub invariant-loop-column : goal.invariant-loop-column
invariant-loop-column l =
    let search = child_in_slots l.self.table l.block l.self.offset_size l.self.target in
    let behind = slot_rows l.self.table (l.nrows - (l.row + 1)) (l.row + 1) in
    let to_come = replicate (l.width - l.column) l.row ++ behind in
    record {
      fits : l.heap_offset < 2 ^ 64;
      rest : search (slot_rows l.self.table l.nrows 0) l.at l.start ≡ search to_come l.pos l.heap_offset;
    }
