-- A region written into a file: the file's bytes from the region's address on are lent to the
-- writer.
use Rattle.std.specs.Prelude.{List, ℕ, ◌≡◌, drop, Result}
use Rattle.refusals.specs.declared.FormatError.{FormatError}
use Rattle.fields.specs.LittleEndian.{put}
use Rattle.table.specs.Table.{fixed}
use Rattle.planner.specs.Steps.{plan_offsets, plan_starts}
use Rattle.plan.specs.declared.ManagedPlan.{ManagedPlan}
use Rattle.region_blocks.specs.declared.Site.{Site}
use Rattle.region_write.specs.Region.{region}
use Rattle.fractal_heap_write.specs.declared.checks.Lent.{Lent}
use Rattle.fractal_heap_write.specs.Serialize.{lent_for}
use Rattle.fractal_heap_write.specs.Answer.{serialized_for}

-- what is lent to the writer: both lists, the objects, and the file's part
abbrev pub lent_in : (site : Site) (offsets blocks objects file : List ℕ) → Lent
lent_in site offsets blocks objects file =
    lent_for offsets blocks objects (drop site.region_address file)

-- what the writer answers for these sizes, with these lists, objects and file lent
unfoldable pub serialized_in : (site : Site) (sizes offsets blocks objects file : List ℕ)
    → Result ManagedPlan FormatError
serialized_in site sizes offsets blocks objects file =
    serialized_for sizes (lent_in site offsets blocks objects file) site

-- the file with the region of the plan in it
abbrev pub file_with : (site : Site) (plan : ManagedPlan) (sizes objects file : List ℕ) → List ℕ
file_with site plan sizes objects file =
    put file site.region_address (region site plan.root_rows sizes objects)

-- both lists have the plan in front, the objects' offsets and the blocks' starts, and behind it
-- what they had
pub record ListsHavePlan (offset_size : ℕ)
    (sizes old_offsets offsets old_blocks blocks : List ℕ) : Type 0 where
  pub offsets_listed : offsets ≡ put old_offsets 0 (plan_offsets fixed offset_size sizes)
  pub blocks_listed : blocks ≡ put old_blocks 0 (plan_starts fixed offset_size sizes)
