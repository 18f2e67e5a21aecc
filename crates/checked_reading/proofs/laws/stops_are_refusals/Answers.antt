-- The law of `stops_are_refusals`.
use Rattle.checked_reading.proofs.Stops.{stops-refuse}
use Rattle.checked_reading.proofs.laws.stops_are_refusals.Goals as goal

pub returns : goal.returns
returns c = stops-refuse
