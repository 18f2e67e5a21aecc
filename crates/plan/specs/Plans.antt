-- What the theorems say of a plan. The objects have these sizes, in bytes, and addresses
-- offset_size bytes.
use Rattle.std.specs.Prelude.{ℕ, ◌+◌, ◌≤◌, ◌<◌, ◌≡◌, ◌↔◌, max, Bool, true, List, [], ◌∷◌, ◌++◌}
use Rattle.std.specs.Prelude.{length, take}
use Rattle.std.specs.Prelude.{slice_index, Ok, Err}
use Rattle.refusals.specs.declared.FormatError.TheVariants.{HeapSpaceExhausted}
use Rattle.table.specs.Table.{Table, fixed, starting_size, row_offset, max_rows}
use Rattle.table.specs.Slots.{Direct, slot_at}
use Rattle.table.specs.Sizes.{direct_header}
use Rattle.planner.specs.declared.State.{State}
use Rattle.plan.specs.declared.ManagedPlan.{ManagedPlan}
use Rattle.planner.specs.Steps.{block_end, run, plan_offsets, plan_starts}
use Rattle.plan.specs.Checks.{input_checked}
use Rattle.plan.specs.Answer.{planned_for}
use Rattle.table_laws.specs.Count.{count, InBody}

-- the heap offset at which planning puts the i-th object
abbrev pub object_start : (offset_size : ℕ) (sizes : List ℕ) (i : ℕ) → ℕ
object_start offset_size sizes i = slice_index (plan_offsets fixed offset_size sizes) i

-- the heap offset at which the n-th placed block begins
abbrev pub block_start : (offset_size : ℕ) (sizes : List ℕ) (n : ℕ) → ℕ
block_start offset_size sizes n = slice_index (plan_starts fixed offset_size sizes) n

-- the heap offset x is a byte of the i-th of the objects at these heap offsets: one of as many as
-- its size, from its own on
pub record InObject (offsets sizes : List ℕ) (i x : ℕ) : Type 0 where
  pub is_object : i < length sizes
  pub not_before : slice_index offsets i ≤ x
  pub not_behind : x < slice_index offsets i + slice_index sizes i

-- and at those where planning puts them
abbrev pub InPlannedObject : (offset_size : ℕ) (sizes : List ℕ) (i x : ℕ) → Type 0
InPlannedObject offset_size sizes i x = InObject (plan_offsets fixed offset_size sizes) sizes i x

-- the first k of the sizes are accepted in lists of so many places, with the same offsets; where
-- there are some, the blocks too are the first of the whole's
pub record FrontPart (sizes : List ℕ) (offset_size k offset_places block_places : ℕ) : Type 0 where
  pub plan : ManagedPlan
  pub accepted : planned_for (take k sizes) offset_places block_places offset_size ≡ Ok plan
  pub same_offsets : plan_offsets fixed offset_size (take k sizes)
      ≡ take k (plan_offsets fixed offset_size sizes)
  pub later : List ℕ
  pub same_blocks : 0 < k
      → plan_starts fixed offset_size sizes ≡ plan_starts fixed offset_size (take k sizes) ++ later

-- the i-th object lies in the body of a placed block, the n-th, which is a direct slot of the heap
pub record InPlacedBlock (offset_size : ℕ) (sizes : List ℕ) (i : ℕ) : Type 0 where
  pub n : ℕ
  pub placed : n < length (plan_starts fixed offset_size sizes)
  pub size : ℕ
  pub slot : Direct fixed (max_rows fixed) (block_start offset_size sizes n) size
  pub past_header : block_start offset_size sizes n + direct_header fixed offset_size
      ≤ object_start offset_size sizes i
  pub ends_inside : object_start offset_size sizes i + slice_index sizes i
      ≤ block_start offset_size sizes n + size

-- the heap offset x lies in the body of a direct slot of the managed space of a heap with so many
-- root rows, past its header, and in no object
pub record FreeByte (table : Table) (header rows : ℕ) (offsets sizes : List ℕ) (x : ℕ)
    : Type 0 where
  pub in_body : InBody table header rows x
  pub in_no_object : (i : ℕ) → InObject offsets sizes i x → ⊥

-- x is a free byte of the plan of these sizes
abbrev pub Free : (offset_size : ℕ) (sizes : List ℕ) (plan : ManagedPlan) (x : ℕ) → Type 0
Free offset_size sizes plan x =
    FreeByte fixed (direct_header fixed offset_size) plan.root_rows
    (plan_offsets fixed offset_size sizes) sizes x

-- the plan says how many free bytes there are: all lie in the managed space, and a test that passes
-- just them, such as the one here, passes as many there
pub record FreeCounted (offset_size : ℕ) (sizes : List ℕ) (plan : ManagedPlan) : Type 0 where
  pub in_managed_space : (x : ℕ) → Free offset_size sizes plan x → x < plan.managed_space
  pub test : ℕ → Bool
  pub passes_free : (x : ℕ) → (test x ≡ true) ↔ Free offset_size sizes plan x
  pub passes_as_many : count test plan.managed_space ≡ plan.free_space
  pub any_as_many : (other : ℕ → Bool)
      → ((x : ℕ) → (other x ≡ true) ↔ Free offset_size sizes plan x)
      → count other plan.managed_space ≡ plan.free_space

-- of a plan that is accepted
pub record PlanKept (sizes : List ℕ) (offset_size : ℕ) (plan : ManagedPlan) : Type 0 where
  -- each front part plans, with the same offsets, in any lists that 13 lets pass
  pub front_parts : (k offset_places block_places : ℕ) → length (take k sizes) ≤ offset_places
      → max 1 (length (take k sizes)) ≤ block_places
      → FrontPart sizes offset_size k offset_places block_places
  -- no heap offset is a byte of two objects
  pub no_shared_byte : (i j x : ℕ) → InPlannedObject offset_size sizes i x
      → InPlannedObject offset_size sizes j x → i ≡ j
  -- each object lies in the body of a placed block
  pub in_a_body : (i : ℕ) → i < length sizes → InPlacedBlock offset_size sizes i
  -- none has a byte in a block header
  pub no_header_touched : (i x : ℕ) → InPlannedObject offset_size sizes i x → (start size : ℕ)
      → Direct fixed (max_rows fixed) start size → start ≤ x
      → x < start + direct_header fixed offset_size → ⊥
  -- the free space is the number of heap offsets in bodies and in no object
  pub free_space : FreeCounted offset_size sizes plan

-- the lists of the whole let each front part pass
abbrev pub FrontPartsFit : Type 0
FrontPartsFit =
    (sizes : List ℕ) (offset_places block_places offset_size : ℕ) (plan : ManagedPlan)
    → planned_for sizes offset_places block_places offset_size ≡ Ok plan
    → (k : ℕ) → FrontPart sizes offset_size k offset_places block_places

-- after the sizes before it, the i-th fits neither the rest of the current block nor any direct
-- slot that begins at or after that block's end
pub record NoSlotFits (offset_size : ℕ) (sizes : List ℕ) (i : ℕ) : Type 0 where
  pub is_object : i < length sizes
  pub state : State
  pub state_before : run fixed offset_size (take i sizes) ≡ Ok state
  pub not_in_block : state.size < state.fill + slice_index sizes i
  pub not_in_later : (start size : ℕ) → Direct fixed (max_rows fixed) start size
      → block_end state ≤ start → size < direct_header fixed offset_size + slice_index sizes i

-- the answer is 12 at the i-th object exactly if the tests before pass and no slot that is left
-- fits it
abbrev pub EndsIffNoneFits : Type 0
EndsIffNoneFits =
    (sizes : List ℕ) (offset_places block_places offset_size i : ℕ)
    → (planned_for sizes offset_places block_places offset_size ≡ Err (HeapSpaceExhausted i))
    ↔ ((input_checked sizes offset_places block_places offset_size ≡ Ok tt)
    × NoSlotFits offset_size sizes i)

-- the root's rows reach the end of the last placed block, the n-th, which is the iterator, and
-- fewer do not
pub record FewestRows (offset_size : ℕ) (sizes : List ℕ) (plan : ManagedPlan) : Type 0 where
  pub n : ℕ
  pub is_last : length (plan_starts fixed offset_size sizes) ≡ n + 1
  pub size : ℕ
  pub slot : Direct fixed (max_rows fixed) (block_start offset_size sizes n) size
  pub iterator_at_end : plan.allocation_iterator ≡ block_start offset_size sizes n + size
  pub rows_reach : plan.allocation_iterator ≤ row_offset fixed plan.root_rows
  pub fewer_do_not : (m : ℕ) → m < plan.root_rows → row_offset fixed m < plan.allocation_iterator

-- the root is the one placed block, of the starting size at 0
pub record OneBlock (offset_size : ℕ) (sizes : List ℕ) (plan : ManagedPlan) : Type 0 where
  pub blocks : plan_starts fixed offset_size sizes ≡ 0 ∷ []
  pub slot : Direct fixed (max_rows fixed) 0 (starting_size fixed)
  pub managed : plan.managed_space ≡ starting_size fixed
  pub iterator : plan.allocation_iterator ≡ 0

-- a root of some rows has the fewest, one of none is the one placed block, and that block is such a
-- root
pub record RootFits (sizes : List ℕ) (offset_size : ℕ) (plan : ManagedPlan) : Type 0 where
  pub rows_are_fewest : 0 < plan.root_rows → FewestRows offset_size sizes plan
  pub no_rows_one_block : plan.root_rows ≡ 0 → OneBlock offset_size sizes plan
  pub one_block_no_rows : plan_starts fixed offset_size sizes ≡ 0 ∷ [] → plan.root_rows ≡ 0

-- the sizes of the direct slots at these starts together
unfoldable pub sizes_at : (table : Table) (starts : List ℕ) → ℕ
sizes_at table [] = 0
sizes_at table (start ∷ starts) = (slot_at table start).size + sizes_at table starts

-- every object has an offset, and the plan says how many blocks are placed and how large they are
-- together
pub record Tallied (sizes : List ℕ) (offset_size : ℕ) (plan : ManagedPlan) : Type 0 where
  pub offsets : length (plan_offsets fixed offset_size sizes) ≡ length sizes
  pub blocks : plan.block_count ≡ length (plan_starts fixed offset_size sizes)
  pub allocated : plan.allocated_space ≡ sizes_at fixed (plan_starts fixed offset_size sizes)
