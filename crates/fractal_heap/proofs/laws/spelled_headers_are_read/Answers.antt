-- What is left of `spelled_headers_are_read`: the theorem.
use Rattle.fractal_heap.proofs.Spelling.{spelled-read}
use Rattle.fractal_heap.proofs.laws.spelled_headers_are_read.Goals as goal

pub returns : goal.returns
returns c = spelled-read
