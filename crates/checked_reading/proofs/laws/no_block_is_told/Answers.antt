-- The law of `no_block_is_told`.
use Rattle.checked_reading.proofs.Stops.{no-block}
use Rattle.checked_reading.proofs.laws.no_block_is_told.Goals as goal

pub returns : goal.returns
returns c = no-block
