-- The law of `placed_blocks_are_found`.
use Rattle.heap_kept.proofs.Finding.{found}
use Rattle.heap_kept.proofs.placed_blocks_are_found.Goals as goal

pub returns : goal.returns
returns c = found
