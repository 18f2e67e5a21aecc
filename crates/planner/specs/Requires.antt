-- What some functions ask of their arguments, so that their sums stay within 64 bits.
use Rattle.std.specs.Prelude.{ℕ, ◌+◌, ◌-◌, ◌/◌, ◌^◌, ◌≤◌, ◌<◌, ◌≡◌, List, length, slice_index, Ok}
use Rattle.table.specs.Table.{fixed, starting_size, heap_space}
use Rattle.table.specs.Slots.{slot_end}
use Rattle.table.specs.declared.Slot.{Slot}
use Rattle.planner.specs.declared.State.{State}
use Rattle.planner.specs.Steps.{block_end, run}

-- more bytes than the indirect blocks of a heap have, and so few that the bytes of a whole region
-- are counted in 64 bits
abbrev pub indirect_limit : ℕ
indirect_limit = 2 ^ 62

-- a state that planning can reach: its blocks lie in the heap, each with the bytes of the smallest
-- at least
pub record Bounded (state : State) : Type 0 where
  pub ends_in_heap : block_end state ≤ heap_space fixed
  pub fill_small : state.fill ≤ heap_space fixed + heap_space fixed
  pub blocks_few : state.count ≤ heap_space fixed / starting_size fixed
  pub blocks_in_heap : state.allocated ≤ heap_space fixed
  pub objects_in_heap : state.used + (state.size - state.fill) ≤ heap_space fixed
  pub indirect_small : state.indirect ≤ indirect_limit

-- a slot of the heap
pub record InHeap (slot : Slot) : Type 0 where
  pub not_empty : 0 < slot.size
  pub ends_in_heap : slot_end slot ≤ heap_space fixed

-- no size is above the limit
pub record Small (limit : ℕ) (sizes : List ℕ) : Type 0 where
  pub small : (k : ℕ) → k < length sizes → slice_index sizes k ≤ limit

-- the heap space holds all objects
pub record Runs (offset_size : ℕ) (sizes : List ℕ) : Type 0 where
  pub last : State
  pub is : run fixed offset_size sizes ≡ Ok last

-- a state after the objects of some list: what a plan under way keeps
abbrev pub IsReached : (offset_size : ℕ) (state : State) → Type 0
IsReached offset_size state = ∥ ((sizes : List ℕ) × (run fixed offset_size sizes ≡ Ok state)) ∥₁
