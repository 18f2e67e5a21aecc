-- What is left of `short_number`: the zeros behind the ID's bytes count for nothing.
use Rattle.std.proofs.Common.{◌∙◌, arith}
use Rattle.ids.proofs.Decoding.{number_padded}
use Rattle.ids.proofs.decode.short_number.Goals as goal

pub returns : goal.returns
returns c =
    c.read_u64_le.ensures
    ∙ number_padded c.args.id.now _ _ c.requires.1 c.copy_from_slice.ensures.after (omega arith)
