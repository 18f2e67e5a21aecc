-- What is left of `put`: the bytes behind the copy are those behind it before.
use Rattle.std.proofs.Common.{rules, ap, length, arith}
use Rattle.std.proofs.lemmas.Grind.{common_steps}
use Rattle.fields.proofs.Writing.{behind_put}
use Rattle.fields.proofs.stores.writer.Writer.put.Goals as goal

pub returns : goal.returns
returns c = record {
  same_reference = search rules;
  at = search rules;
  len = search rules;
  written = grind (arith, common_steps);
  behind = behind_put _ _ _ _ _ (omega arith) (omega arith) (ap length c.copy_from_slice.ensures.after);
}
