-- What is left of `number_behind_type`: of eight bytes, the number without its first byte is that of the seven after
-- it.
use Rattle.std.proofs.Common.{sym, arith}
use Rattle.fields.proofs.LittleEndian.{le_at-last}
use Rattle.ids.proofs.decode.number_behind_type.Goals as goal

pub returns-then-bytes-eq8 : goal.returns-then-bytes-eq8
returns-then-bytes-eq8 c =
    rw c.read_u64_le-then-bytes-eq8.ensures
    (sym (le_at-last _ (λ j. omega (arith, c.type_inv.id j)) 8 0 1 (sym c.if-bytes-eq8.true)))
