-- What is left of `engines_agree`: the law.
use Rattle.slot_engines.proofs.Agreeing.{engines-agree}
use Rattle.slot_engines.proofs.engines_agree.Goals as goal

pub returns : goal.returns
returns c = engines-agree
