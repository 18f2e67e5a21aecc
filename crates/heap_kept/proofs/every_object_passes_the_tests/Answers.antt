-- The law of `every_object_passes_the_tests`.
use Rattle.heap_kept.proofs.Checked.{checked-kept}
use Rattle.heap_kept.proofs.every_object_passes_the_tests.Goals as goal

pub returns : goal.returns
returns c = checked-kept
