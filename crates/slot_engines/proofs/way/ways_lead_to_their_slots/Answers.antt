-- What is left of `ways_lead_to_their_slots`: the law.
use Rattle.slot_engines.proofs.Leading.{ways-lead}
use Rattle.slot_engines.proofs.way.ways_lead_to_their_slots.Goals as goal

pub returns : goal.returns
returns c = ways-lead
