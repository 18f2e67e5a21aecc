-- The law of `empty_objects_are_answered`.
use Rattle.heap_kept.proofs.Empty.{empty-answered}
use Rattle.heap_kept.proofs.empty_objects_are_answered.Goals as goal

pub returns : goal.returns
returns c = empty-answered
