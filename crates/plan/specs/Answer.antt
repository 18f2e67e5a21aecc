-- The answer of planning: the tests and then the run, the totals of the state at its end, and what
-- the lent lists hold after the call. HDF5 File Format Specification 3.0, III.G, 'Fractal Heap
-- Header': root_rows is Current # of Rows in Root Indirect Block, managed_space Amount of Managed
-- Space in Heap, allocated_space Amount of Allocated Managed Space in Heap, free_space Amount of
-- Free Space in Managed Blocks, allocation_iterator Offset of Direct Block Allocation Iterator in
-- Managed Space. Free space and the iterator of a direct root are our rules (docs/DIFFERENCES.md).
--
-- An address has offset_size bytes; the state is that at the end.
use Rattle.std.specs.Prelude.{ℕ, ◌+◌, ◌-◌, ◌==◌, if◌then◌else◌, List, [], ◌∷◌, Result, Ok, Err}
use Rattle.refusals.specs.Steps.{◌>>=◌}
use Rattle.refusals.specs.Refusals.{refusal}
use Rattle.refusals.specs.declared.FormatError.{FormatError}
use Rattle.refusals.specs.declared.FormatError.TheVariants.{HeapSpaceExhausted}
use Rattle.table.specs.Table.{Table, fixed, starting_size, row_offset}
use Rattle.table.specs.Sizes.{direct_header, indirect_size}
use Rattle.table.specs.Capacity.{capacity}
use Rattle.planner.specs.declared.State.{State}
use Rattle.planner.specs.Steps.{block_end, run}
use Rattle.plan.specs.End.{end_state, rows_of_root}
use Rattle.plan.specs.Checks.{input_checked}
use Rattle.fields.specs.LittleEndian.{put}
use Rattle.plan.specs.declared.ManagedPlan.{ManagedPlan}

-- the root is a block of the starting size at 0
abbrev pub bare_totals : (table : Table) (offset_size : ℕ) (state : State) → ManagedPlan
bare_totals table offset_size state = record {
  block_count = 1;
  region_size = starting_size table;
  root_rows = 0;
  root_place = 0;
  managed_space = starting_size table;
  allocated_space = starting_size table;
  free_space = starting_size table - direct_header table offset_size - state.used;
  allocation_iterator = 0;
}

-- the root is an indirect block of so many rows. In the region all other indirect blocks come
-- before it, and the direct blocks after it
abbrev pub row_totals : (table : Table) (offset_size : ℕ) (state : State) (rows : ℕ) → ManagedPlan
row_totals table offset_size state rows = record {
  block_count = state.count;
  region_size = state.indirect + indirect_size table offset_size rows + state.allocated;
  root_rows = rows;
  root_place = state.indirect;
  managed_space = row_offset table rows;
  allocated_space = state.allocated;
  free_space = capacity table (direct_header table offset_size) rows - state.used;
  allocation_iterator = block_end state;
}

-- one of the two, by the root's rows
abbrev pub totals : (table : Table) (offset_size : ℕ) (state : State) → ManagedPlan
totals table offset_size state =
    if rows_of_root table (block_end state) == 0
    then bare_totals table offset_size state
    else row_totals table offset_size state (rows_of_root table (block_end state))

-- what a run gives: the plan, or 12 with the index at which the heap space ends
abbrev pub ran_plan : (offset_size : ℕ) (ran : Result State ℕ) → Result ManagedPlan FormatError
ran_plan offset_size (Ok state) = Ok (totals fixed offset_size (end_state fixed offset_size state))
ran_plan offset_size (Err index) = Err (HeapSpaceExhausted index)

-- the answer for these sizes, and lists of so many places for offsets and blocks: 12 after the
-- tests
unfoldable pub planned_for : (sizes : List ℕ) (offsets blocks offset_size : ℕ)
    → Result ManagedPlan FormatError
planned_for sizes offsets blocks offset_size = do
  _ ← input_checked sizes offsets blocks offset_size
  ran_plan offset_size (run fixed offset_size sizes)

-- a plan's eight numbers
abbrev pub numbers : (plan : ManagedPlan) → List ℕ
numbers plan =
    plan.block_count ∷ plan.region_size ∷ plan.root_rows ∷ plan.root_place ∷ plan.managed_space
    ∷ plan.allocated_space ∷ plan.free_space ∷ plan.allocation_iterator ∷ []

-- the number of an answer: 0, or the refusal's
abbrev pub planned_number : (planned : Result ManagedPlan FormatError) → ℕ
planned_number (Ok plan) = 0
planned_number (Err error) = (refusal error).number

-- its values: the plan's numbers, or the refusal's pair
abbrev pub planned_values : (planned : Result ManagedPlan FormatError) → List ℕ
planned_values (Ok plan) = numbers plan
planned_values (Err error) = (refusal error).first ∷ (refusal error).second ∷ []

-- what a lent list holds after the call: new numbers in front where the plan is accepted, else what
-- it held
abbrev pub list_after : (planned : Result ManagedPlan FormatError) (new old : List ℕ) → List ℕ
list_after (Ok plan) new old = put old 0 new
list_after (Err error) new old = old
