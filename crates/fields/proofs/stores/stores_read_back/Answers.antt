-- What is left of `stores_read_back`: the law.
use Rattle.fields.proofs.Storing.{stores-read-back}
use Rattle.fields.proofs.stores.stores_read_back.Goals as goal

pub returns : goal.returns
returns c = stores-read-back
