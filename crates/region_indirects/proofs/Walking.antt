-- Laws of the walk's definition: its equations, the width of a slot's entry, addresses that only grow, and the
-- rows of the slots that are left.
use Rattle.std.proofs.Common.{ℕ, zero, suc, ◌+◌, ◌-◌, ◌*◌, ◌^◌, ◌≤◌, ◌<◌, ◌≡◌, refl, sym, ap, ◌∙◌, true, false}
use Rattle.std.proofs.Common.{nat_le, nat_lt, List, [], ◌∷◌, ◌++◌, append_assoc, length, replicate}
use Rattle.std.proofs.Common.{drop, slice_index, arith, length-append, add-zero, inl, inr}
use Rattle.std.specs.Prelude.{sum_by}
use Rattle.std.proofs.lemmas.List.Sums.{sum_by-append, sum_by-cons}
use Rattle.std.proofs.lemmas.List.Folds.{sum_by-replicate}
use Rattle.std.proofs.lemmas.List.{drop_more, drop_all, length-replicate, replicate-append-replicate}
use Rattle.std.proofs.lemmas.Bool.{cases_lt}
use Rattle.std.proofs.lemmas.Bool.Decides.{nat_tests}
use Rattle.fields.proofs.LittleEndian.{length-le}
use Rattle.table.specs.Table.{Table, fixed, row_bits, row_offset}
use Rattle.table.specs.Sizes.{indirect_size}
use Rattle.table.proofs.Rows.{row, slot-rows}
use Rattle.region_blocks.specs.Blocks.{indirect_block}
use Rattle.region_blocks.proofs.Lengths.{indirect-length}
use Rattle.region_indirects.specs.declared.cursor.Slots.{Slots}
use Rattle.region_indirects.specs.Slots.{block_slots, next_rows, next_slots}
use Rattle.region_indirects.specs.Walk.{Walked, WalkedFrom, begins_before, rows_of_slots, unplaced, direct}
use Rattle.region_indirects.specs.Walk.{both}
use Rattle.region_indirects.specs.Walk.{slot, slots, smaller, all_slots, block}
use Rattle.region_indirects.specs.Requires.{rows_left, span_left}

-- ---- the next placed block

pub begins_some : (ss : List ℕ) (i end : ℕ) → i < length ss
    → nat_lt (slice_index ss i) end ≡ begins_before (drop i ss) end
begins_some ss i end h = rw (drop_more ss i 0 h)

pub begins_none : (ss : List ℕ) (i end : ℕ) → length ss ≤ i → false ≡ begins_before (drop i ss) end
begins_none ss i end h = rw (drop_all i ss h)

-- ---- the definition's equations, at any table

module _ (t : Table) (w header : ℕ) where
  module _ (inner : ℕ → WalkedFrom) (r at : ℕ) (ss : List ℕ) (pos next : ℕ) {size : ℕ}
      (sz : size ≡ 2 ^ row_bits t r) where
    pub slot-unplaced : begins_before ss (at + size) ≡ false
        → slot t w header inner r at ss pos next ≡ unplaced w ss next
    unfolding slot
    slot-unplaced b = grind arith

    module _ (b : begins_before ss (at + size) ≡ true) where
      pub slot-direct : nat_le (row_bits t r) t.direct_bits ≡ true
          → slot t w header inner r at ss pos next ≡ direct w size ss next
      unfolding slot
      slot-direct d = grind arith

      pub slot-inner : nat_le (row_bits t r) t.direct_bits ≡ false
          → slot t w header inner r at ss pos next ≡ inner (r - t.width_bits) at ss pos next
      unfolding slot
      slot-inner d = grind arith

  -- the blocks of fewer than n rows are the blocks
  pub smaller-block : (n j : ℕ) → j < n → (at : ℕ) (ss : List ℕ) (pos next : ℕ)
      → smaller t w header n j at ss pos next ≡ block t w header j at ss pos next
  unfolding smaller block
  smaller-block zero j h at ss pos next = absurd (omega arith)
  smaller-block (suc n) j h at ss pos next = grind (arith, nat_tests, smaller-block n j)

  -- a slot of a block of n rows can hold any block
  slot-any : (n r : ℕ) → r < n → (at : ℕ) (ss : List ℕ) (pos next : ℕ)
      → slot t w header (smaller t w header n) r at ss pos next ≡ slot t w header (block t w header) r at ss pos next
  unfolding slot
  slot-any n r h at ss pos next = let same = smaller-block n (r - t.width_bits) (omega arith) at ss pos next in
      grind arith

  pub slots-step : (n r : ℕ) (rs : List ℕ) → r < n → (at : ℕ) (ss : List ℕ) (pos next : ℕ) (c : Walked)
      → c ≡ slot t w header (block t w header) r at ss pos next
      → slots t w header (smaller t w header n) (r ∷ rs) at ss pos next
      ≡ both c (slots t w header (smaller t w header n) rs (at + 2 ^ row_bits t r) c.rest (pos + length c.bytes) c.next)
  unfolding slots
  slots-step n r rs h at ss pos next c e = rw (slot-any n r h at ss pos next, ← e)

-- ---- slots without a block, passed at once

before-less : (ss : List ℕ) (a b : ℕ) → a ≤ b → begins_before ss b ≡ false → begins_before ss a ≡ false
before-less [] a b l e = refl
before-less (s ∷ ss) a b l e = grind (arith, nat_tests)

both-none : (ss : List ℕ) (next w : ℕ) (o : Walked) → both (unplaced (0 * w) ss next) o ≡ o
both-none ss next w o = let none : 0 * w ≡ 0 = omega arith in rw none

both-more : (ss : List ℕ) (next w k : ℕ) (o : Walked)
    → both (unplaced w ss next) (both (unplaced (k * w) ss next) o) ≡ both (unplaced (suc k * w) ss next) o
both-more ss next w k o =
    let n : w + k * w ≡ suc k * w = omega arith in
    let one : replicate w 0xFF ++ replicate (k * w) 0xFF ≡ replicate (suc k * w) 0xFF =
    rw n at (replicate-append-replicate {A = ℕ} w (k * w) 0xFF) in
    rw (← (append_assoc (replicate w 0xFF) (replicate (k * w) 0xFF) o.entries), one)

module _ (t : Table) (w header : ℕ) (inner : ℕ → WalkedFrom) where
  -- k slots of a row before whose end no block begins
  pub slots-passed : (k r : ℕ) (rs : List ℕ) (at : ℕ) (ss : List ℕ) (pos next : ℕ)
      → begins_before ss (at + k * 2 ^ row_bits t r) ≡ false
      → slots t w header inner (replicate k r ++ rs) at ss pos next
      ≡ both (unplaced (k * w) ss next) (slots t w header inner rs (at + k * 2 ^ row_bits t r) ss pos next)
  unfolding slots
  slots-passed zero r rs at ss pos next b =
      let here : at + 0 * 2 ^ row_bits t r ≡ at = omega arith in
      rw (here, both-none ss next w (slots t w header inner rs at ss pos next))
  slots-passed (suc k) r rs at ss pos next b =
      let z : ℕ = 2 ^ row_bits t r in
      let on : at + z + k * z ≡ at + suc k * z = omega arith in
      let none = before-less ss (at + z) (at + suc k * z) (omega arith) b in
      let first = slot-unplaced t w header inner r at ss pos next refl none in
      let rest = rw on at (slots-passed k r rs (at + z) ss pos next (rw on b)) in
      rw (first, add-zero, rest) (both-more ss next w k (slots t w header inner rs (at + suc k * z) ss pos next))

-- ---- the width of entries, and the address of the next direct block

-- n entries, and an address at or after `next`
record Sound (w n next : ℕ) (o : Walked) : Type 0 where
  wide : length o.entries ≡ n * w
  grows : next ≤ o.next

module _ (t : Table) (w header : ℕ) where
  abbrev AllSound : (ℕ → WalkedFrom) → Type 0
  AllSound inner = (j at : ℕ) (ss : List ℕ) (pos next : ℕ) → Sound w 1 next (inner j at ss pos next)

  slot-sound : (inner : ℕ → WalkedFrom) → AllSound inner → (r at : ℕ) (ss : List ℕ) (pos next : ℕ)
      → Sound w 1 next (slot t w header inner r at ss pos next)
  unfolding slot
  slot-sound inner h r at ss pos next = grind (arith, h, length-le, length-replicate {A = ℕ})

  slots-sound : (inner : ℕ → WalkedFrom) → AllSound inner → (rs : List ℕ) (at : ℕ) (ss : List ℕ) (pos next : ℕ)
      → Sound w (length rs) next (slots t w header inner rs at ss pos next)
  unfolding slots
  slots-sound inner h [] at ss pos next = grind arith
  slots-sound inner h (r ∷ rs) at ss pos next =
      let c : Walked = slot t w header inner r at ss pos next in
      let first = slot-sound inner h r at ss pos next in
      let rest = slots-sound inner h rs (at + 2 ^ row_bits t r) c.rest (pos + length c.bytes) c.next in
      grind (arith, length-append {A = ℕ})

  smaller-sound : (n : ℕ) → AllSound (smaller t w header n)
  unfolding smaller
  smaller-sound zero j at ss pos next = grind (arith, length-replicate {A = ℕ})
  smaller-sound (suc n) j at ss pos next =
      let slots = slots-sound (smaller t w header n) (smaller-sound n) (rows_of_slots t n 0) at ss pos next in
      let less = smaller-sound n j at ss pos next in
      grind (arith, length-le)

  pub slots-grow : (n : ℕ) (rs : List ℕ) (at : ℕ) (ss : List ℕ) (pos next : ℕ)
      → next ≤ (slots t w header (smaller t w header n) rs at ss pos next).next
  slots-grow n rs at ss pos next = (slots-sound (smaller t w header n) (smaller-sound n) rs at ss pos next).grows

  -- a slot has one entry
  pub slot-entry : (n r at : ℕ) (ss : List ℕ) (pos next : ℕ)
      → length (slot t w header (smaller t w header n) r at ss pos next).entries ≡ w
  slot-entry n r at ss pos next =
      omega (arith, (slot-sound (smaller t w header n) (smaller-sound n) r at ss pos next).wide)

  length-rows : (m r : ℕ) → length (rows_of_slots t m r) ≡ m * 2 ^ t.width_bits
  unfolding rows_of_slots
  length-rows zero r = omega arith
  length-rows (suc m) r = grind (arith, length-rows m (suc r), length-append {A = ℕ}, length-replicate {A = ℕ})

  pub block-entries : (n at : ℕ) (ss : List ℕ) (pos next : ℕ)
      → length (all_slots t w header n at ss pos next).entries ≡ n * 2 ^ t.width_bits * w
  block-entries n at ss pos next =
      let sound = slots-sound (smaller t w header n) (smaller-sound n) (rows_of_slots t n 0) at ss pos next in
      rw (length-rows n 0) at sound.wide

  -- a block stands after those in its slots
  pub block-length : (n at : ℕ) (ss : List ℕ) (pos next : ℕ)
      → length (block t w header n at ss pos next).bytes
      ≡ length (all_slots t w header n at ss pos next).bytes + indirect_size t w n
  unfolding block
  block-length n at ss pos next =
      let inner : Walked = all_slots t w header n at ss pos next in
      let own = indirect-length t w header at inner.entries in
      let entries = block-entries n at ss pos next in
      length-append inner.bytes (indirect_block t w header at inner.entries) ∙ omega arith

-- ---- the rows of the slots that are left

pub rows_none : (n : ℕ) (s : Slots) → n ≤ s.row → rows_left n s ≡ []
rows_none n s h = grind (arith, nat_tests)

pub rows_all : (n off : ℕ) → rows_left n (block_slots off) ≡ rows_of_slots fixed n 0
unfolding rows_of_slots
rows_all zero off = refl
rows_all (suc n) off = grind (arith, nat_tests)

-- the rows from one on, where a row begins
rows-from : (n row off : ℕ)
    → rows_of_slots fixed (n - row) row ≡ rows_left n (record { row = row; left = 2 ^ fixed.width_bits; offset = off })
unfolding rows_of_slots
rows-from n row off =
    elim (cases_lt row n) [
      | inl l ↦ (let some : n - row ≡ suc (n - (row + 1)) = omega arith in rw some (grind (arith, nat_tests)))
      | inr l ↦ (let none : n - row ≡ 0 = omega arith in rw none (grind (arith, nat_tests)))
    ]

-- the rest of a row, and the rows after it
pub rows_row : (n : ℕ) (s : Slots) (off : ℕ) → s.row < n
    → rows_left n s ≡ replicate s.left s.row ++ rows_left n (next_rows s off)
rows_row n s off h = let rest = rows-from n (s.row + 1) off in grind (arith, nat_tests)

rows-next-at : (n row left off size : ℕ) → row < n → 0 < left
    → let s : Slots = record { row = row; left = left; offset = off } in
    rows_left n s ≡ row ∷ rows_left n (next_slots s size)
rows-next-at n row zero off size h l = absurd (omega arith)
rows-next-at n row (suc zero) off size h l = let rest = rows-from n (row + 1) off in grind (arith, nat_tests)
rows-next-at n row (suc (suc k)) off size h l =
    let less : suc (suc k) - 1 ≡ suc k = omega arith in
    let more : replicate (suc (suc k) - 1) row ≡ row ∷ replicate k row = rw less in
    grind (arith, nat_tests)

pub rows_next : (n : ℕ) (s : Slots) (size : ℕ) → s.row < n → 0 < s.left
    → rows_left n s ≡ s.row ∷ rows_left n (next_slots s size)
rows_next n s size h l = rows-next-at n s.row s.left s.offset size h l

-- ---- how many bytes slots have

-- a slot of row r
abbrev slot_size : Table → ℕ → ℕ
slot_size t r = 2 ^ row_bits t r

-- the slots of m rows reach from the first one's start to where the row behind them would begin
rows-span : (t : Table) (m r : ℕ) → row_offset t r + sum_by (slot_size t) (rows_of_slots t m r) ≡ row_offset t (r + m)
unfolding rows_of_slots
rows-span t zero r = let here : r + 0 ≡ r = omega arith in rw here (omega arith)
rows-span t (suc m) r =
    let more : r + suc m ≡ suc r + m = omega arith in
    let parts = sum_by-append (slot_size t) (replicate (2 ^ t.width_bits) r) (rows_of_slots t m (suc r)) in
    rw more (omega (
      arith,
      parts,
      sum_by-replicate (slot_size t) (2 ^ t.width_bits) r,
      (row t r).ends,
      rows-span t m (suc r),
    ))

pub span_block : (n off : ℕ) → span_left n (block_slots off) ≡ row_offset fixed n
span_block n off =
    let here : 0 + n ≡ n = omega arith in
    let all = rw here at (rows-span fixed n 0) in
    rw (rows_all n off) (omega (arith, all))

module _ (n : ℕ) (s : Slots) {size : ℕ} (h : s.row < n) (e : size ≡ 2 ^ row_bits fixed s.row) where
  -- the rest of a row, and the rows after it
  pub span_row : (off : ℕ) → span_left n s ≡ s.left * size + span_left n (next_rows s off)
  span_row off =
      let parts = sum_by-append (slot_size fixed) (replicate s.left s.row) (rows_left n (next_rows s off)) in
      let slots = sum_by-replicate (slot_size fixed) s.left s.row ∙ ap (λ z. s.left * z) (sym e) in
      rw (rows_row n s off h) (parts ∙ ap (λ k. k + span_left n (next_rows s off)) slots)

  -- one slot, and those after it
  pub span_next : 0 < s.left → span_left n s ≡ size + span_left n (next_slots s size)
  span_next l =
      let behind : List ℕ = rows_left n (next_slots s size) in
      rw (rows_next n s size h l)
      (sum_by-cons (slot_size fixed) s.row behind ∙ ap (λ z. z + span_left n (next_slots s size)) (sym e))

  pub row_ends : {s' : Slots} {end : ℕ} → s' ≡ next_rows s (s.offset + s.left * size) → s.offset + span_left n s ≤ end
      → s'.offset + span_left n s' ≤ end
  row_ends on h = rw on (omega (arith, span_row (s.offset + s.left * size), h))

  pub slot_ends : {s' : Slots} {end : ℕ} → 0 < s.left → s' ≡ next_slots s size → s.offset + span_left n s ≤ end
      → s'.offset + span_left n s' ≤ end
  slot_ends l on h = rw on (omega (arith, span_next l, h))

-- an indirect slot of row r is a block of r - 2 rows
pub block_span : (row : ℕ) → nat_le (row_bits fixed row) fixed.direct_bits ≡ false
    → row_offset fixed (row - 2) ≡ 2 ^ row_bits fixed row
block_span row d = sym (slot-rows fixed row (omega arith) (omega arith) (grind (arith, nat_tests)))

-- ---- the bounds of the walks

-- slots by their numbers
pub record Numbers (s : Slots) (row left offset : ℕ) : Type 0 where
  pub row_is : s.row ≡ row
  pub left_is : s.left ≡ left
  pub offset_is : s.offset ≡ offset

pub numbers : {s : Slots} {row left offset : ℕ} → s ≡ record { row = row; left = left; offset = offset }
    → Numbers s row left offset
numbers e = rw e (record { row_is = refl; left_is = refl; offset_is = refl })

-- the next slot's row, and the slots that are left fall
pub record Next (n : ℕ) (s : Slots) (size : ℕ) (s' : Slots) : Type 0 where
  pub within : s'.row ≤ n
  pub some : 0 < s'.left
  pub few : s'.left ≤ 4
  pub fewer : 4 * (n - s'.row) + s'.left < 4 * (n - s.row) + s.left
  pub offset_is : s'.offset ≡ s.offset + size

pub next-slot : {n : ℕ} {s s' : Slots} {size : ℕ} → s.row < n → 0 < s.left → s.left ≤ 4 → s' ≡ next_slots s size
    → Next n s size s'
next-slot {n} {s} {size = size} h l f e =
    let next : Next n s size (next_slots s size) = grind (arith, nat_tests) in rw e next

-- an indirect slot's row
pub row-high : {row : ℕ} → nat_le (row_bits fixed row) fixed.direct_bits ≡ false → 8 ≤ row
row-high {row} d = grind (arith, nat_tests)
