-- The law of `every_object_comes_back`.
use Rattle.heap_kept.proofs.Theorem.{heap-kept}
use Rattle.heap_kept.proofs.every_object_comes_back.Goals as goal

pub returns : goal.returns
returns c = heap-kept
