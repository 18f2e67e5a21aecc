-- The ID is decoded by the header's table and its largest managed object. The prover finds this, too; it is named so
-- that other numbers are refused for what they are.
use Rattle.fractal_heap.proofs.header.FractalHeapHeader.decode_managed_id.Goals as goal

pub returns-clause-decoded : goal.returns-clause-decoded
returns-clause-decoded c = c.decode_managed_id.ensures.decoded

pub returns-clause-ignores_padding : goal.returns-clause-ignores_padding
returns-clause-ignores_padding c = c.decode_managed_id.ensures.ignores_padding
