-- The law of `written_heaps_are_read`.
use Rattle.heap_kept.proofs.FromBytes.{written-read}
use Rattle.heap_kept.proofs.written_heaps_are_read.Goals as goal

pub returns : goal.returns
returns c = written-read
