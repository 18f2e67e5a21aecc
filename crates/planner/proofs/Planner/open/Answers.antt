-- What is left of `Planner::open`: what the search finds is the step of the object.
use Rattle.std.proofs.Common.{◌+◌, arith}
use Rattle.table.proofs.Locating.{entered-small}
use Rattle.planner.proofs.Reaching.{reached-step, reached-bounded}
use Rattle.planner.proofs.Adding.{opens-at}
use Rattle.planner.proofs.Planner.open.Goals as goal

pub overflow_add-self-5 : goal.overflow_add-self-5
overflow_add-self-5 c =
    let s = c.args.self.now.state in
    let small = entered-small c.args.self.now.offset_size (s.start + s.size) c.in_ok-slot.slot.start (omega arith) in
    omega (arith, c.entered_blocks.ensures)

pub invariant_of-self : goal.invariant_of-self
invariant_of-self c =
    let found = c.in_ok-slot.ensures.first_large_enough in
    let header = c.direct_block_header-header.ensures in
    let step = opens-at _ _ _ c.requires.no_room_here header c.entered_blocks.ensures found in
    let r = reached-step _ _ c.args.self.now.reached _ _ _ step in
    record { reached = r; bounded = reached-bounded _ _ r (omega arith); narrow = c.args.self.now.narrow }

pub returns-clause-placed : goal.returns-clause-placed
returns-clause-placed c =
    let found = c.in_ok-slot.ensures.first_large_enough in
    opens-at _ _ _ c.requires.no_room_here c.direct_block_header-header.ensures c.entered_blocks.ensures found
