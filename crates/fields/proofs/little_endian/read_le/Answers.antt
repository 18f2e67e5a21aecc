-- What is left of `read_le`: a width that is neither 2 nor 4 is 8.
use Rattle.std.proofs.Common.{arith}
use Rattle.fields.proofs.Widths.{legal-eight}
use Rattle.fields.proofs.little_endian.read_le.Goals as goal

pub read_u64_le-requires : goal.read_u64_le-requires
read_u64_le-requires c =
    omega (arith, legal-eight c.args.width c.requires.width_value (λ e. omega arith) (λ e. omega arith))

pub returns-in_default : goal.returns-in_default
returns-in_default c =
    rw (legal-eight c.args.width c.requires.width_value (λ e. omega arith) (λ e. omega arith)) c.read_u64_le.ensures
