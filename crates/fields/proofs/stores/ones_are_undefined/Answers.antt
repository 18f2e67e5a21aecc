-- What is left of `ones_are_undefined`: the law.
use Rattle.fields.proofs.Storing.{ones-undefined}
use Rattle.fields.proofs.stores.ones_are_undefined.Goals as goal

pub returns : goal.returns
returns c = ones-undefined
