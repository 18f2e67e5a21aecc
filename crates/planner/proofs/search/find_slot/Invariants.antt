-- The search from where it stands finds what it found from `cursor`.
use Rattle.std.proofs.Common.{◌-◌, ◌≡◌, ◌≤◌}
use Rattle.table.specs.Table.{fixed, heap_space}
use Rattle.planner.specs.Steps.{open_at}
use Rattle.planner.proofs.search.find_slot.Given as goal

abbrev pub invariant-loop-from : goal.invariant-loop-from
invariant-loop-from l = record {
  in_heap : l.from ≤ heap_space fixed;
  same : open_at fixed l.need l.cursor ≡ open_at fixed l.need l.from;
}

abbrev pub decreases-loop-from : goal.decreases-loop-from
decreases-loop-from l = heap_space fixed - l.from
