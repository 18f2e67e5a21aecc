-- The walk over a block's rows and slots, whatever is looked for: `R whole left` says of the block's sizes and of those
-- still to come what the loops keep.
use Rattle.std.proofs.Common.{ℕ, zero, suc, ◌+◌, ◌-◌, ◌*◌, ◌^◌, ◌≤◌, ◌<◌, ◌≡◌, sym, ap, ◌∙◌, subst}
use Rattle.std.proofs.Common.{List, [], ◌++◌, append_assoc, arith}
use Rattle.std.proofs.Math.Nat.{add-zero, zero-add, mul-le-mul_right}
use Rattle.std.proofs.Math.Pow.{pow_mono}
use Rattle.table.specs.Table.{Table, row_bits, row_offset, heap_space}
use Rattle.table.proofs.Rows.{row, row-mono, slot-rows}
use Rattle.slot_walk.specs.HeapOrder.{copies, slot_sizes, row_sizes, sizes}
use Rattle.slot_walk.specs.Blocks.{IsNested, Block}
use Rattle.slot_walk.proofs.Rows.{pow-below, pow-upto, row-strict, row-same, double}
use Rattle.slot_walk.proofs.Levels.{nested-inside}
use Rattle.slot_walk.proofs.Sums.{block-rows}

-- a slot at a heap offset in a block of so many levels at most: of a row's size, in the heap
pub record RowSlot (table : Table) (levels at size : ℕ) : Type 0 where
  pub row : ℕ
  pub size_is : size ≡ 2 ^ row_bits table row
  pub in_heap : at + size ≤ heap_space table
  pub nested : table.direct_bits < row_bits table row
      → (0 < levels) × IsNested table (levels - 1) (row - table.width_bits)

-- before row `row`, with `left` rows to come
pub record AtRow (t : Table) (R : List ℕ → List ℕ → Type 0) (levels a e here size next : ℕ) : Type 0 where
  pub block : Block t levels a e
  pub row : ℕ
  pub left : ℕ
  pub all : row + left ≡ block.rows
  pub here-is : here ≡ a + row_offset t row
  pub size_is : size ≡ 2 ^ row_bits t row
  pub next-is : next ≡ 2 ^ row_bits t (suc row)
  pub rest : R (sizes t block.rows) (row_sizes t (sizes t) row left)

-- in row `row`, which began at `from`, with `cols` of its slots and `left` rows to come
pub record InRow (t : Table) (R : List ℕ → List ℕ → Type 0) (levels a e from here size next cols : ℕ) : Type 0 where
  pub block : Block t levels a e
  pub row : ℕ
  pub left : ℕ
  pub all : suc row + left ≡ block.rows
  pub here-is : here + cols * size ≡ a + row_offset t (suc row)
  pub moves : from < here + cols * size
  pub size_is : size ≡ 2 ^ row_bits t row
  pub next-is : next ≡ 2 ^ row_bits t (suc row)
  pub rest : R (sizes t block.rows) (copies cols (slot_sizes t (sizes t) row) ++ row_sizes t (sizes t) (suc row) left)

-- a block is filled by one number of rows
pub rows_are : {t : Table} {levels a e : ℕ} (B : Block t levels a e) (n : ℕ) → e ≡ a + row_offset t n → B.rows ≡ n
rows_are {t} B n f = row-same t B.rows n (omega (arith, B.ends))

module _ {t : Table} {R : List ℕ → List ℕ → Type 0} {levels a e : ℕ} where
  pub walk_start : (start : ℕ) → start ≡ 2 ^ t.start_bits → Block t levels a e → ((whole : List ℕ) → R whole whole)
      → AtRow t R levels a e a start start
  walk_start start s B h = record {
    block = B;
    row = 0;
    left = B.rows;
    all = zero-add B.rows;
    here-is = sym (add-zero a);
    size_is = s ∙ sym (ap (λ (k : ℕ). 2 ^ k) (add-zero t.start_bits));
    next-is = s ∙ sym (ap (λ (k : ℕ). 2 ^ k) (add-zero t.start_bits));
    rest = subst (R (sizes t B.rows)) (block-rows t B.rows) (h (sizes t B.rows));
  }

  module _ {here size next : ℕ} (I : AtRow t R levels a e here size next) where
    pub walk_end : e ≤ here → R (sizes t I.block.rows) []
    unfolding row_sizes
    walk_end l = go I.left I.all I.rest
      where
        go : (k : ℕ) → I.row + k ≡ I.block.rows → R (sizes t I.block.rows) (row_sizes t (sizes t) I.row k)
            → R (sizes t I.block.rows) []
        go zero p q = q
        go (suc k) p q = absurd (omega (arith, row-strict t I.row I.block.rows (omega arith), I.here-is, I.block.ends))

    pub row_start : (width : ℕ) → width ≡ 2 ^ t.width_bits → here < e → InRow t R levels a e here here size next width
    unfolding row_sizes
    row_start width v l = subst (InRow t R levels a e here here size next) (sym v) (go I.left I.all I.rest)
      where
        go : (k : ℕ) → I.row + k ≡ I.block.rows → R (sizes t I.block.rows) (row_sizes t (sizes t) I.row k)
            → InRow t R levels a e here here size next (2 ^ t.width_bits)
        go zero p q =
            let z : row_offset t I.row ≡ row_offset t I.block.rows = ap (row_offset t) (omega arith) in
            absurd (omega (arith, I.here-is, I.block.ends))
        go (suc k) p q =
            let m : 2 ^ t.width_bits * size ≡ 2 ^ t.width_bits * 2 ^ row_bits t I.row =
            ap (λ (y : ℕ). 2 ^ t.width_bits * y) I.size_is in
            let d = (row t I.row).ends in
            record {
              block = I.block;
              row = I.row;
              left = k;
              all = omega arith;
              here-is = omega (arith, I.here-is);
              moves = omega (arith, I.here-is, row-strict t I.row (suc I.row) (omega arith));
              size_is = I.size_is;
              next-is = I.next-is;
              rest = q;
            }

  module _ {from here size next cols : ℕ} (I : InRow t R levels a e from here size next cols) where
    -- the row's end is in the block
    pub row_in : a + row_offset t (suc I.row) ≤ e
    row_in = omega (arith, I.block.ends, row-mono t (suc I.row) I.block.rows (omega (arith, I.all)))

    pub next_small : next ≤ 2 ^ t.heap_bits
    next_small =
        let m : 2 ^ (t.start_bits + (suc I.row - 1)) ≤ 2 ^ (t.start_bits + t.width_bits + I.row) =
        pow_mono (omega arith) in
        omega (arith, row_in, I.block.in_heap, I.next-is)

    pub row-end : cols ≡ 0 → (AtRow t R levels a e here next (next + next)) × (from < here) × (here ≤ e)
    unfolding copies
    row-end z =
        let p : cols * size ≡ 0 * size = ap (λ (y : ℕ). y * size) z in
        let u = I.here-is in
        let m = I.moves in
        let i = row_in in (
          record {
            block = I.block;
            row = suc I.row;
            left = I.left;
            all = I.all;
            here-is = omega arith;
            size_is = I.next-is;
            next-is = omega (arith, I.next-is, double t I.row);
            rest = subst
                (λ (k : ℕ). R (sizes t I.block.rows)
                (copies k (slot_sizes t (sizes t) I.row) ++ row_sizes t (sizes t) (suc I.row) I.left)) z I.rest;
          },
          omega arith,
          omega arith,
        )

    module _ (some : 0 < cols) where
      -- the slot at hand is in the heap
      pub slot_in : RowSlot t levels here size
      slot_in =
          let m : 1 * size ≤ cols * size = mul-le-mul_right size some in
          record {
            row = I.row;
            size_is = I.size_is;
            in_heap = omega (arith, row_in, I.block.in_heap, I.here-is);
            nested = nested-inside t levels I.block.rows I.row I.block.nested (omega (arith, I.all));
          }

      -- what comes after the slot at hand
      abbrev pub after_slot : List ℕ
      after_slot = copies (cols - 1) (slot_sizes t (sizes t) I.row) ++ row_sizes t (sizes t) (suc I.row) I.left

      pub slot_next : R (sizes t I.block.rows) (slot_sizes t (sizes t) I.row ++ after_slot)
      unfolding copies
      slot_next =
          let x = slot_sizes t (sizes t) I.row in
          let y = row_sizes t (sizes t) (suc I.row) I.left in
          let z : cols ≡ suc (cols - 1) = omega arith in
          subst (R (sizes t I.block.rows))
          (ap (λ (k : ℕ). copies k x ++ y) z ∙ append_assoc x (copies (cols - 1) x) y) I.rest

      pub slot_done : (R' : List ℕ → List ℕ → Type 0) (y : ℕ) → y ≡ here + size
          → ((left : List ℕ) → R (sizes t I.block.rows) (slot_sizes t (sizes t) I.row ++ left)
          → R' (sizes t I.block.rows) left)
          → InRow t R' levels a e from y size next (cols - 1)
      slot_done R' y p f =
          let c : cols * size ≡ suc (cols - 1) * size = ap (λ (v : ℕ). v * size) (omega arith) in
          let h = I.here-is in
          let m = I.moves in
          record {
            block = I.block;
            row = I.row;
            left = I.left;
            all = I.all;
            here-is = omega arith;
            moves = omega arith;
            size_is = I.size_is;
            next-is = I.next-is;
            rest = f after_slot slot_next;
          }

-- ---- one slot

module _ (t : Table) (z n : ℕ) (e : z ≡ 2 ^ row_bits t n) where
  pub direct-bits : z ≤ 2 ^ t.direct_bits → row_bits t n ≤ t.direct_bits
  direct-bits l = pow-upto (omega arith)

  pub deep-bits : 2 ^ t.direct_bits < z → t.direct_bits < row_bits t n
  deep-bits l = pow-below (omega arith)

-- an indirect slot is a block
module _ {t : Table} (g : t.start_bits ≤ t.direct_bits) (w : t.width_bits + t.start_bits ≤ suc t.direct_bits) where
  pub slot-is-block : {levels a z : ℕ} → 2 ^ t.direct_bits < z → RowSlot t levels a z
      → (0 < levels) × Block t (levels - 1) a (a + z)
  slot-is-block {levels} {a} {z} d S =
      let e = S.size_is in
      let b = deep-bits t z S.row e d in
      let N = S.nested b in (
        N.0,
        record {
          rows = S.row - t.width_bits;
          ends = omega (arith, slot-rows t S.row g w b);
          in_heap = S.in_heap;
          nested = N.1;
        },
      )
