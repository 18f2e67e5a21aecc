-- What is left of `put_eight`: the bytes of the number stand in front.
use Rattle.std.proofs.Common.{ℕ, ◌++◌, sym, ap, ◌∙◌, drop}
use Rattle.fields.specs.LittleEndian.{le}
use Rattle.fields.proofs.LittleEndian.{length-le, put_front}
use Rattle.fields.proofs.Writing.{le-eight}
use Rattle.ids.proofs.write.put_eight.Goals as goal

pub returns : goal.returns
returns c =
    let a = c.args in
    let bytes = c.copy_from_slice.ensures.after ∙ c.to_le_bytes.ensures ∙ le-eight a.number in
    let front = put_front a.id.now (le 8 a.number) in
    rw bytes (sym (front ∙ ap (λ (n : ℕ). le 8 a.number ++ drop n a.id.now) (length-le 8 a.number)))
