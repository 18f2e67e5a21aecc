-- The ID that an object is given before there are others behind it.
use Rattle.std.specs.Prelude.{ℕ, List, slice_index, Result, Ok}
use Rattle.refusals.specs.Steps.{◌>>=◌}
use Rattle.refusals.specs.declared.FormatError.{FormatError}
use Rattle.table.specs.Table.{fixed}
use Rattle.plan.specs.Answer.{planned_for}
use Rattle.plan.specs.Plans.{object_start}
use Rattle.ids.specs.Checks.{id_length, id_checked}
use Rattle.heap_kept.specs.HeapKept.{object_id}

-- of the i-th object, by the plan of these sizes alone, in lists of so many places
abbrev pub early_id : (sizes : List ℕ) (i offset_places block_places offset_size : ℕ)
    → Result (List ℕ) FormatError
early_id sizes i offset_places block_places offset_size = do
  _ ← planned_for sizes offset_places block_places offset_size
  _ ← id_checked fixed (object_start offset_size sizes i) (slice_index sizes i) (id_length fixed)
  Ok (object_id offset_size sizes i)
