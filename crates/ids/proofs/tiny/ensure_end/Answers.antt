-- What is left of `ensure_end`: where bytes end is where as many more bytes from the front on end.
use Rattle.std.proofs.Common.{◌≡◌, ◌+◌, ℕ, List, arith}
use Rattle.fields.specs.Fields.{len_ensured}
use Rattle.ids.proofs.tiny.ensure_end.Goals as goal

end_alone : (s : List ℕ) (p n : ℕ) → len_ensured s 0 (p + n) ≡ len_ensured s p n
end_alone s p n =
    let e : 0 + (p + n) ≡ p + n = omega arith in
    rw e

pub returns-clause-tested : goal.returns-clause-tested
returns-clause-tested c = rw (c.ensure_len.ensures.tested, c.from.ensures, c.from-2.ensures) (end_alone _ _ _)
