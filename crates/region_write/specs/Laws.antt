-- The laws of a region. Those of a plan hold for objects of any bytes and at any addresses.
use Rattle.std.specs.Prelude.{ℕ, ◌+◌, ◌-◌, ◌*◌, ◌^◌, ◌≤◌, ◌<◌, ◌≡◌, false, ◌==◌, if◌then◌else◌}
use Rattle.std.specs.Prelude.{List, ◌++◌, length}
use Rattle.std.specs.Prelude.{take, drop, replicate, slice_index, Ok}
use Rattle.numbers.specs.Sums.{sum}
use Rattle.table.specs.Table.{Table, fixed, row_bits}
use Rattle.table.specs.Slots.{slot_at}
use Rattle.table.specs.Sizes.{indirect_size}
use Rattle.plan.specs.declared.ManagedPlan.{ManagedPlan}
use Rattle.plan.specs.Answer.{planned_for}
use Rattle.planner.specs.declared.State.{State}
use Rattle.planner.specs.Steps.{run, plan_offsets, plan_starts}
use Rattle.region_blocks.specs.declared.Site.{Site}
use Rattle.region_blocks.specs.Blocks.{direct_block}
use Rattle.region_indirects.specs.Walk.{WalkedFrom, begins_before, unplaced, both, slots}
use Rattle.region_directs.specs.Directs.{objects_in, directs}
use Rattle.region_write.specs.Region.{region, root_bytes}
use Rattle.region_write.specs.Planned.{IndirectPlanned, BareRegion}

-- ---- of a plan

-- the region is as long as planned
abbrev pub RegionsFill : Type 0
RegionsFill =
    (sizes : List ℕ) (offsets blocks : ℕ) (site : Site) (plan : ManagedPlan)
    → planned_for sizes offsets blocks site.offset_size ≡ Ok plan → (joined : List ℕ)
    → length (region site plan.root_rows sizes joined) ≡ plan.region_size

-- the root's bytes begin at the planned place
abbrev pub RootsStand : Type 0
RootsStand =
    (sizes : List ℕ) (offsets blocks : ℕ) (site : Site) (plan : ManagedPlan)
    → planned_for sizes offsets blocks site.offset_size ≡ Ok plan → (joined : List ℕ)
    → let root = root_bytes site plan.root_rows sizes joined in
    take (length root) (drop plan.root_place (region site plan.root_rows sizes joined)) ≡ root

-- the indirect blocks are as long as planned, those before the root too, and lead to all direct
-- blocks
abbrev pub IndirectsPlanned : Type 0
IndirectsPlanned =
    (sizes : List ℕ) (offsets blocks offset_size : ℕ) (plan : ManagedPlan)
    → planned_for sizes offsets blocks offset_size ≡ Ok plan → 0 < plan.root_rows
    → (header_address first directs : ℕ)
    → IndirectPlanned offset_size sizes plan header_address first directs

-- the planned size is that of the indirect blocks before the root, of the root, and of the direct
-- blocks; or it is that of the one direct block
pub record RegionSummed (offset_size : ℕ) (sizes : List ℕ) (plan : ManagedPlan) : Type 0 where
  pub rows : 0 < plan.root_rows
      → plan.region_size
      ≡ plan.root_place + indirect_size fixed offset_size plan.root_rows + plan.allocated_space
  pub bare : plan.root_rows ≡ 0 → BareRegion offset_size sizes plan

abbrev pub RegionsSummed : Type 0
RegionsSummed =
    (sizes : List ℕ) (offsets blocks offset_size : ℕ) (plan : ManagedPlan)
    → planned_for sizes offsets blocks offset_size ≡ Ok plan → RegionSummed offset_size sizes plan

-- ---- of a run that places all objects

-- the direct blocks together are as long as their slots, without objects as the one block
abbrev pub DirectsFill : Type 0
DirectsFill =
    (offset_size header_address : ℕ) (sizes joined : List ℕ) (state : State)
    → offset_size ≤ 255 → run fixed offset_size sizes ≡ Ok state
    → let offsets = plan_offsets fixed offset_size sizes in
    let starts = plan_starts fixed offset_size sizes in
    length (directs fixed offset_size header_address offsets sizes joined starts)
    ≡ (if state.count == 0 then 2 ^ fixed.start_bits else state.allocated)

-- the direct slot of `size` bytes at `start` that holds the offset of an object has the object's
-- bytes as far from its start as the offset is; they are the part of the joined bytes that begins
-- at the sum of the sizes before it
abbrev pub ObjectsLie : Type 0
ObjectsLie =
    (table : Table) → table.start_bits ≤ table.direct_bits → table.start_bits ≤ table.heap_bits
    → (offset_size header_address : ℕ) (sizes joined : List ℕ) (state : State)
    → length joined ≡ sum sizes → run table offset_size sizes ≡ Ok state
    → (start size i : ℕ) → start < 2 ^ table.heap_bits
    → slot_at table start ≡ record { start = start; size = size }
    → i < length sizes → 0 < slice_index sizes i
    → let offsets = plan_offsets table offset_size sizes in
    let offset = slice_index offsets i in
    let objects = objects_in start size offsets sizes joined in
    let bytes = direct_block table offset_size header_address start size objects in
    start ≤ offset → offset < start + size
    → take (slice_index sizes i) (drop (offset - start) bytes)
    ≡ take (slice_index sizes i) (drop (sum (take i sizes)) joined)

-- ---- of a walk

-- so many slots of a row before whose end no block begins may be passed at once: they are undefined
-- addresses
abbrev pub RowsPassed : Type 0
RowsPassed =
    (table : Table) (offset_size header_address : ℕ) (inner : ℕ → WalkedFrom)
    (count row : ℕ) (rows : List ℕ) (offset : ℕ) (starts : List ℕ) (address next : ℕ)
    → let end = offset + count * 2 ^ row_bits table row in
    let behind = slots table offset_size header_address inner rows end starts address next in
    begins_before starts end ≡ false
    → slots table offset_size header_address inner (replicate count row ++ rows)
    offset starts address next
    ≡ both (unplaced (count * offset_size) starts next) behind
