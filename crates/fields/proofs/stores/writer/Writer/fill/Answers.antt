-- What is left of `fill`: the bytes behind the run are those behind it before.
use Rattle.std.proofs.Common.{rules, arith}
use Rattle.std.proofs.lemmas.Grind.{common_steps}
use Rattle.fields.proofs.Writing.{behind_put}
use Rattle.fields.proofs.stores.writer.Writer.fill.Goals as goal

pub returns : goal.returns
returns c = record {
  same_reference = search rules;
  at = search rules;
  len = search rules;
  written = grind (arith, common_steps);
  behind = behind_put c.args.self.now.at c.args.count _ c.args.self.now.bytes.now c.fill.new.self (omega arith)
      (omega arith) (omega (arith, c.fill.auto.self));
}
