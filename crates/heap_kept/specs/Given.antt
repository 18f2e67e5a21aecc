-- The ID that an object has as soon as an open plan accepts it, in whatever run it is one of
-- (docs/RULES.md, 'What comes back').
use Rattle.std.specs.Prelude.{ℕ, ◌+◌, ◌<◌, ◌≡◌, List, ◌∷◌, ◌++◌, length, Ok}
use Rattle.table.specs.Table.{fixed}
use Rattle.planner.specs.declared.State.{State}
use Rattle.plan.specs.declared.ManagedPlan.{ManagedPlan}
use Rattle.open_plan.specs.Open.{IsPlanOf}
use Rattle.open_plan.specs.Additions.{addition}
use Rattle.ids.specs.Written.{managed_id, IsManaged}
use Rattle.fractal_heap.specs.declared.header.FractalHeapHeader.{FractalHeapHeader}
use Rattle.heap_kept.specs.HeapKept.{Call, WriterAccepts, HoldsRegion, IsHeaderOf, object_id}
use Rattle.heap_kept.specs.HeapKept.{part_of, ComesBack}
use Rattle.heap_kept.specs.Kept.{IsIdOf}

-- an open plan of these sizes accepted one more, and gave it this heap offset
pub record IsGiven (offset_size : ℕ) (sizes : List ℕ) (size offset : ℕ) : Type 0 where
  pub before : State
  pub objects : ℕ
  pub is_plan : IsPlanOf offset_size before objects sizes
  pub after : State
  pub is_accepted : addition offset_size before objects size ≡ Ok (after, offset)

-- the ID of this heap offset and this size is that of the call's object with this index; where the
-- object is not empty it is an ID that it was given early, too, and by it every file that holds
-- what the writer wrote gives the object's bytes, by a header under which it is managed
pub record GivenIdHolds (call : Call) (plan : ManagedPlan) (index size offset : ℕ) : Type 0 where
  pub is_its_id :
      managed_id fixed offset size ≡ object_id call.site.offset_size call.sizes index
  pub is_early_id : 0 < size → IsIdOf (managed_id fixed offset size) call (index + 1) index
  pub comes_back : 0 < size → (file : List ℕ) → HoldsRegion file call plan
      → (header : FractalHeapHeader) → IsHeaderOf header call plan
      → IsManaged size header.max_managed_object_size
      → ComesBack file header call.site.offset_size offset size
      (part_of call.sizes call.objects index)

-- so it is in every call that the writer accepts, of a list that begins with these sizes and the
-- one that was added
abbrev pub GivenIdsHold : Type 0
GivenIdsHold = (call : Call) (plan : ManagedPlan) → WriterAccepts call plan
    → (sizes later : List ℕ) (size offset : ℕ) → call.sizes ≡ sizes ++ size ∷ later
    → IsGiven call.site.offset_size sizes size offset
    → GivenIdHolds call plan (length sizes) size offset
