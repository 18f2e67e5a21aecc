-- Header and region of a heap in a file, each at its place.
use Rattle.std.specs.Prelude.{ℕ, List, length}
use Rattle.fields.specs.LittleEndian.{put}
use Rattle.plan.specs.declared.ManagedPlan.{ManagedPlan}
use Rattle.region_blocks.specs.declared.Site.{Site}
use Rattle.fractal_heap.specs.Spelling.{header_spelled}
use Rattle.heap_kept.specs.OwnHeader.{planned_header}
use Rattle.round_trip.specs.InFile.{file_with}

-- the file with the region of the plan in it, and then the plan's own header at its address,
-- lengths of eight bytes
abbrev pub file_with_both : (site : Site) (plan : ManagedPlan) (sizes objects file : List ℕ)
    → List ℕ
file_with_both site plan sizes objects file =
    put (file_with site plan sizes objects file) site.heap_header_address
    (header_spelled (planned_header site plan (length sizes)) site.offset_size 8)
