-- The law of `own_headers_are_accepted`.
use Rattle.heap_kept.proofs.OwnHeader.{own-headers-accepted}
use Rattle.heap_kept.proofs.own_headers_are_accepted.Goals as goal

pub returns : goal.returns
returns c = own-headers-accepted
