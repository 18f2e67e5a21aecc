-- The law of `the_others_pass`.
use Rattle.checked_reading.proofs.Others.{others-pass}
use Rattle.checked_reading.proofs.laws.the_others_pass.Goals as goal

pub returns : goal.returns
returns c = others-pass
