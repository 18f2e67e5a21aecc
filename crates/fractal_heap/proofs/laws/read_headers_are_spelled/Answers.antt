-- What is left of `read_headers_are_spelled`: the theorem.
use Rattle.fractal_heap.proofs.Reading.{read-spelled}
use Rattle.fractal_heap.proofs.laws.read_headers_are_spelled.Goals as goal

pub returns : goal.returns
returns c = read-spelled
