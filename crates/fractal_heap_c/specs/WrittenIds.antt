-- An ID as the ID writer leaves it, and what C finds in the slot.
use Rattle.std.specs.Prelude.{ℕ, ◌≡◌, ◌==◌, if◌then◌else◌, List, Ok}
use Rattle.fields.specs.Slot.{slot_bytes}
use Rattle.refusals.specs.Refusals.{slice_too_short}
use Rattle.table.specs.Table.{fixed}
use Rattle.ids.specs.Checks.{id_checked, written_id_report}
use Rattle.ids.specs.Written.{managed_id}

-- the ID writer accepted the heap offset and the length for some lent slice, and these are the
-- eight bytes that it wrote
pub record IsWrittenId (id : List ℕ) (offset len : ℕ) : Type 0 where
  pub lent : ℕ
  pub writer_accepts : id_checked fixed offset len lent ≡ Ok tt
  pub id_written : id ≡ managed_id fixed offset len

-- the slot at the end, for an ID into so many lent bytes: where these are too few, 13 is the number
-- alone, and the slot is as it was
abbrev pub written_id_slot : (slot : List ℕ) (offset len lent : ℕ) → List ℕ
written_id_slot slot offset len lent =
    if (written_id_report offset len lent).number == slice_too_short
    then slot
    else slot_bytes slot (written_id_report offset len lent)
