-- What is left of `unchecked_bytes`: by the clause `kept`, or `from_bytes`, alone the slot names the object's bytes.
use Rattle.std.proofs.Common.{arith}
use Rattle.heap_kept.proofs.Keeping.{size-is}
use Rattle.fractal_heap_c.proofs.tests.unchecked_bytes.Goals as goal

pub returns-clause-kept : goal.returns-clause-kept
returns-clause-kept c h g call p k i H I m =
    c.named.ensures _ (omega (arith, size-is H I, I.not_empty))
    (c.fractal_heap_read_managed_object_unchecked-refusal.ensures.kept h g call p k i H I m (omega arith))

pub returns-clause-from_bytes : goal.returns-clause-from_bytes
returns-clause-from_bytes c h B call p k i H I m =
    c.named.ensures _ (omega (arith, size-is H I, I.not_empty))
    (c.fractal_heap_read_managed_object_unchecked-refusal.ensures.from_bytes h B call p k i H I m (omega arith))
