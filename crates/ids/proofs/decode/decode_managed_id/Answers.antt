-- What is left of `decode_managed_id`: what stands behind the fields of an ID is not looked at.
use Rattle.std.proofs.Common.{rules}
use Rattle.ids.proofs.Padding.{padding-ignored}
use Rattle.ids.proofs.decode.decode_managed_id.Goals as goal

pub returns-clause-ignores_padding : goal.returns-clause-ignores_padding
returns-clause-ignores_padding c =
    padding-ignored c.args.table c.args.max_managed_object_size c.args.id.now _ (search rules)
