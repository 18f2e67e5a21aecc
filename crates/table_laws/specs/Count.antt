-- What is counted: how many numbers pass a test, and the bodies of the direct slots of the managed
-- space (docs/RULES.md). A body is a block's Object Data: HDF5 File Format Specification 3.0,
-- III.G, 'Fractal Heap Direct Block'.
use Rattle.std.specs.Prelude.{ℕ, zero, suc, ◌+◌, ◌≤◌, ◌<◌, ◌≡◌, Bool}
use Rattle.numbers.specs.Sums.{bit}
use Rattle.table.specs.Table.{Table, starting_size}
use Rattle.table.specs.Slots.{Direct}

-- how many numbers below n pass the test
unfoldable pub count : (test : ℕ → Bool) (n : ℕ) → ℕ
count test zero = 0
count test (suc n) = count test n + bit (test n)

-- a direct slot of the managed space of a heap with so many root rows: at 0 rows the one at 0, of
-- the starting size
abbrev pub Managed : (table : Table) (rows start size : ℕ) → Type 0
Managed table zero start size = (start ≡ 0) × (size ≡ starting_size table)
Managed table (suc rows) start size = Direct table (suc rows) start size

-- x lies in the body of such a slot, past its header of so many bytes
pub record InBody (table : Table) (header rows x : ℕ) : Type 0 where
  pub start : ℕ
  pub size : ℕ
  pub slot : Managed table rows start size
  pub past_header : start + header ≤ x
  pub before_end : x < start + size
