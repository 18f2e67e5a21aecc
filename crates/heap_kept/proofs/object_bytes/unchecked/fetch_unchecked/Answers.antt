-- What is left of `fetch_unchecked`: by the theorem what is found is the object that was given the ID.
use Rattle.heap_kept.proofs.Keeping.{kept, fetched-from, no-place}
use Rattle.heap_kept.proofs.object_bytes.unchecked.fetch_unchecked.Goals as goal

pub returns-in_err-place-clause-kept : goal.returns-in_err-place-clause-kept
returns-in_err-place-clause-kept c s p k i H I m l = absurd (no-place (kept H I m c.in_err-place.ensures.found))

pub returns-clause-kept : goal.returns-clause-kept
returns-clause-kept c s p k i H I m l =
    fetched-from (kept H I m c.in_ok-place.ensures.found) l c.copy_object.ensures.answer c.copy_object.ensures.copied
