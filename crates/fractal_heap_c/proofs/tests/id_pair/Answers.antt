-- What is left of `id_pair`: by the clause `kept` alone the slot has the offset and the length that the ID was
-- written from.
use Rattle.std.proofs.Common.{ℕ, ap₂, ◌∙◌, Some, arith}
use Rattle.fractal_heap_c.proofs.tests.id_pair.Goals as goal

pub returns-then-refusal-ne0 : goal.returns-then-refusal-ne0
returns-then-refusal-ne0 c h g geometry offset len I m =
    let N = c.fractal_heap_decode_managed_id-refusal.ensures.kept h g geometry offset len I m (omega arith) in
    absurd (c.if-refusal-ne0.true N.answers_zero)

pub returns : goal.returns
returns c h g geometry offset len I m =
    let N = c.fractal_heap_decode_managed_id-refusal.ensures.kept h g geometry offset len I m (omega arith) in
    ap₂ (λ (x y : ℕ). Some (x, y)) (c.read_u64_le.ensures ∙ N.names_offset) (c.read_u64_le-2.ensures ∙ N.names_length)
