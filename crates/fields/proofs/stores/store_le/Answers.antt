-- What is left of `store_le`: the first of the eight bytes of a number are its low bytes.
use Rattle.std.proofs.Common.{◌∙◌, ap, take, arith}
use Rattle.fields.specs.LittleEndian.{le}
use Rattle.fields.proofs.LittleEndian.{length-le}
use Rattle.fields.proofs.Writing.{low_bytes, mid_put}
use Rattle.fields.proofs.stores.store_le.Goals as goal

pub returns : goal.returns
returns c =
    let a = c.args in
    let low = ap (take a.width) c.to_le_bytes.ensures ∙ low_bytes a.width a.value c.requires.narrow in
    mid_put _ _ (le a.width a.value) _ _ (c.copy_from_slice.ensures.after ∙ low)
    (length-le a.width a.value ∙ omega arith)
