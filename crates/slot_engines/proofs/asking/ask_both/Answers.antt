-- What is left of `ask_both`: the law of both engines.
use Rattle.slot_engines.proofs.Agreeing.{fixed-agreed}
use Rattle.slot_engines.proofs.asking.ask_both.Goals as goal

pub returns-clause-agree : goal.returns-clause-agree
returns-clause-agree c = fixed-agreed c.args.offset c.count_to.ensures.slot c.locate.ensures
