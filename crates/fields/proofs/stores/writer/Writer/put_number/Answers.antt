-- What is left of `put_number`: the first of the eight bytes of a number are its low bytes.
use Rattle.std.proofs.Common.{rules, ◌∙◌, ap, take, ◌++◌, List, ℕ}
use Rattle.fields.specs.Writing.{written}
use Rattle.fields.proofs.Writing.{low_bytes}
use Rattle.fields.proofs.stores.writer.Writer.put_number.Goals as goal

pub returns : goal.returns
returns c =
    let a = c.args in
    let width = ap (λ (n : ℕ). take n c.to_le_bytes.result) c.from.ensures in
    let low = width ∙ ap (take a.width) c.to_le_bytes.ensures ∙ low_bytes a.width a.number c.requires.narrow in
    record {
      same_reference = search rules;
      at = search rules;
      len = search rules;
      written = c.put.ensures.written ∙ ap (λ (bs : List ℕ). written a.self.now ++ bs) low;
      behind = search rules;
    }
