-- What is read from a file that anything may have happened to since a heap was written into it.
use Rattle.std.specs.Prelude.{ℕ, List, take, Result, Ok}
use Rattle.refusals.specs.Steps.{◌>>=◌}
use Rattle.refusals.specs.declared.FormatError.{FormatError}
use Rattle.plan.specs.declared.ManagedPlan.{ManagedPlan}
use Rattle.fields.specs.declared.place.Place.{Place}
use Rattle.region_blocks.specs.declared.Site.{Site}
use Rattle.fractal_heap.specs.Read.{managed_unchecked}
use Rattle.heap_kept.specs.HeapKept.{object_id}
use Rattle.heap_kept.specs.Kept.{fetched}
use Rattle.round_trip.specs.Objects.{root_header}
use Rattle.round_trip.specs.Backs.{returned_count}

-- what the file answers for the i-th object, by the ID that it is given when there are the first
-- objects alone, `early` of them
abbrev pub object_in : (site : Site) (plan : ManagedPlan)
    (sizes : List ℕ) (early i : ℕ) (file : List ℕ) → Result Place FormatError
object_in site plan sizes early i file =
    managed_unchecked (root_header site plan) file (object_id site.offset_size (take early sizes) i)
    site.offset_size

-- how many bytes of it are fetched into so many, where the writer accepts
abbrev pub fetched_in : (planned : Result ManagedPlan FormatError) (site : Site)
    (sizes : List ℕ) (early i : ℕ) (file : List ℕ) (lent : ℕ) → Result ℕ FormatError
fetched_in planned site sizes early i file lent = do
  plan ← planned
  fetched (object_in site plan sizes early i file) lent

-- how many objects the file has, where the writer accepts
abbrev pub counted_in : (planned : Result ManagedPlan FormatError) (site : Site)
    (sizes offsets objects file : List ℕ) → Result ℕ FormatError
counted_in planned site sizes offsets objects file = do
  plan ← planned
  Ok (returned_count (root_header site plan) file site.offset_size sizes offsets objects)
