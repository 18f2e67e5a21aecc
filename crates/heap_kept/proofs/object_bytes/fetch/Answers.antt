-- What is left of `fetch`: by the theorem what is found is the object that was given the ID.
use Rattle.heap_kept.proofs.Keeping.{kept_checked, fetched-from, no-place}
use Rattle.heap_kept.proofs.object_bytes.fetch.Goals as goal

pub returns-in_err-place-clause-kept : goal.returns-in_err-place-clause-kept
returns-in_err-place-clause-kept c sums s p k i H a I m l =
    absurd (no-place (kept_checked H I m sums a c.in_err-place.ensures.found))

pub returns-clause-kept : goal.returns-clause-kept
returns-clause-kept c sums s p k i H a I m l =
    fetched-from (kept_checked H I m sums a c.in_ok-place.ensures.found) l c.copy_object.ensures.answer
    c.copy_object.ensures.copied
