-- The law of `needed_bytes_are_fewest`.
use Rattle.numbers.proofs.Bytes.{bytes-fewest}
use Rattle.numbers.proofs.needed_bytes_are_fewest.Goals as goal

pub returns : goal.returns
returns c = bytes-fewest
