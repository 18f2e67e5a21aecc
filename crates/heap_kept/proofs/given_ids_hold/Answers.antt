-- The law of `given_ids_hold`.
use Rattle.heap_kept.proofs.Giving.{given-ids-hold}
use Rattle.heap_kept.proofs.given_ids_hold.Goals as goal

pub returns : goal.returns
returns c = given-ids-hold
