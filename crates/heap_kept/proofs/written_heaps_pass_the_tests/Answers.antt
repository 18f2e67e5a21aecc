-- The law of `written_heaps_pass_the_tests`.
use Rattle.heap_kept.proofs.FromBytes.{written-passes}
use Rattle.heap_kept.proofs.written_heaps_pass_the_tests.Goals as goal

pub returns : goal.returns
returns c = written-passes
