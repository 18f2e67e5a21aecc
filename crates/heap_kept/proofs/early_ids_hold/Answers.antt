-- The law of `early_ids_hold`.
use Rattle.heap_kept.proofs.Theorem.{early-id-holds}
use Rattle.heap_kept.proofs.early_ids_hold.Goals as goal

pub returns : goal.returns
returns c = early-id-holds
