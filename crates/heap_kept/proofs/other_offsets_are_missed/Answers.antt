-- The law of `other_offsets_are_missed`.
use Rattle.heap_kept.proofs.Missing.{not_found}
use Rattle.heap_kept.proofs.other_offsets_are_missed.Goals as goal

pub returns : goal.returns
returns c = not_found
