-- What is left of `read_object`: by the ID that was written the header reads the object.
use Rattle.std.proofs.Common.{ℕ, List, refl, sym, ap, ◌∙◌}
use Rattle.fractal_heap.specs.Read.{managed_unchecked}
use Rattle.round_trip.proofs.ReadBack.{id_written, read-by}
use Rattle.round_trip.proofs.by_id.read_object.Goals as goal

pub returns-clause-found : goal.returns-clause-found
returns-clause-found c =
    let a = c.args in
    c.read_managed_object_unchecked.ensures.found
    ∙ ap (λ (id : List ℕ). managed_unchecked a.header.now a.file.now id a.offset_size)
    (c.in_ok-write_managed_id.ensures.written ∙ id_written _ _ _ refl)
    ∙ sym (read-by a.header.now a.file.now a.offset_size a.offset a.size (sym c.in_ok-write_managed_id.ensures.answer))
