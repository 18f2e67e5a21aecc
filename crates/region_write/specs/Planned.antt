-- What the theorems say of a plan's region.
use Rattle.std.specs.Prelude.{ℕ, ◌+◌, ◌^◌, ◌≡◌, List, [], ◌∷◌, length}
use Rattle.table.specs.Table.{fixed}
use Rattle.table.specs.Sizes.{indirect_size}
use Rattle.plan.specs.declared.ManagedPlan.{ManagedPlan}
use Rattle.planner.specs.Steps.{plan_starts}
use Rattle.region_indirects.specs.Walk.{Walked, all_slots, block}

-- the slots of the root of a plan of these sizes, and the root, the first indirect block at the
-- address `first`, where the direct blocks begin at the address `directs`
abbrev pub slots_planned : (offset_size : ℕ) (sizes : List ℕ) (plan : ManagedPlan)
    (header first directs : ℕ) → Walked
slots_planned offset_size sizes plan header first directs =
    let starts = plan_starts fixed offset_size sizes in
    all_slots fixed offset_size header plan.root_rows 0 starts first directs

abbrev pub root_planned : (offset_size : ℕ) (sizes : List ℕ) (plan : ManagedPlan)
    (header first directs : ℕ) → Walked
root_planned offset_size sizes plan header first directs =
    let starts = plan_starts fixed offset_size sizes in
    block fixed offset_size header plan.root_rows 0 starts first directs

-- the indirect blocks of a plan of these sizes, the first at the address `first`, where the direct
-- blocks begin at the address `directs`: how long those before the root are, and all of them, the
-- address behind the direct blocks, and no direct block without an entry
pub record IndirectPlanned (offset_size : ℕ) (sizes : List ℕ) (plan : ManagedPlan)
    (header first directs : ℕ) : Type 0 where
  pub children : length (slots_planned offset_size sizes plan header first directs).bytes
      ≡ plan.root_place
  pub bytes : length (root_planned offset_size sizes plan header first directs).bytes
      ≡ plan.root_place + indirect_size fixed offset_size plan.root_rows
  pub next : (root_planned offset_size sizes plan header first directs).next
      ≡ directs + plan.allocated_space
  pub rest : (root_planned offset_size sizes plan header first directs).rest ≡ []

-- the region of a root without rows is the one block
pub record BareRegion (offset_size : ℕ) (sizes : List ℕ) (plan : ManagedPlan) : Type 0 where
  pub blocks : plan_starts fixed offset_size sizes ≡ 0 ∷ []
  pub region : plan.region_size ≡ 2 ^ fixed.start_bits
  pub allocated : plan.allocated_space ≡ 2 ^ fixed.start_bits
  pub place : plan.root_place ≡ 0
