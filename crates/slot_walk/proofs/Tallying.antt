-- Counting slots by size along the walk: what is counted and what is left give the whole.
use Rattle.std.proofs.Common.{ℕ, suc, ◌+◌, ◌-◌, ◌*◌, ◌^◌, ◌≤◌, ◌<◌, ◌≡◌, zero-le, refl, sym, ap, ◌∙◌, subst}
use Rattle.std.proofs.Common.{List, [], ◌∷◌, ◌++◌, length, set, replicate, length-set, inl, inr, arith}
use Rattle.std.proofs.Math.Nat.{add-zero}
use Rattle.std.proofs.Math.Pow.{pow_mono}
use Rattle.std.proofs.Math.ListN.{get_or-eq_default}
use Rattle.std.proofs.lemmas.Bool.{cases_lt}
use Rattle.std.proofs.lemmas.Bool.Decides.{nat_tests}
use Rattle.std.proofs.lemmas.List.{set-set, set-get_or, get_or-set_same, get_or-set_other, get_or-replicate}
use Rattle.std.proofs.lemmas.List.{length-replicate, ext_get_or}
use Rattle.std.proofs.lemmas.Nat.{pow_pos}
use Rattle.std.specs.Prelude.{slice_index, Ok, Err, Some, None}
use Rattle.refusals.specs.declared.FormatError.TheVariants.{OutsideHeap}
use Rattle.numbers.specs.Sums.{sum}
use Rattle.table.specs.Table.{Table, row_bits, row_offset, max_rows}
use Rattle.table.proofs.Rows.{row, row-mono, slot-rows}
use Rattle.table_laws.specs.Laws.{IsTable}
use Rattle.table_laws.proofs.Format.{heap-span}
use Rattle.slot_walk.specs.HeapOrder.{slot_sizes, sizes, of_size, of_sizes, bytes_of}
use Rattle.slot_walk.specs.Blocks.{IsNested}
use Rattle.slot_walk.specs.Counting.{Tallied, CountBlock, BlockCounted, slot_counts}
use Rattle.slot_walk.specs.Counting.{heap_rows_end}
use Rattle.slot_walk.specs.Laws.{SlotsOfSize, FormatCounts}
use Rattle.slot_walk.proofs.Rows.{pow-upto, pow-same, row-strict, double}
use Rattle.slot_walk.proofs.Levels.{nested-fewer}
use Rattle.slot_walk.proofs.Sums.{slot-own, slot-block, slot-sum}
use Rattle.slot_walk.proofs.Counts.{of-size-append, of-size-one, of-size-none, of-size-le, of-sizes-length}
use Rattle.slot_walk.proofs.Counts.{of-sizes-at, counts-fill, slots-counted}
use Rattle.slot_walk.proofs.Walking.{AtRow, InRow, rows_are, walk_start, walk_end, row_start, row-end, row_in}
use Rattle.slot_walk.proofs.Walking.{next_small}
use Rattle.slot_walk.proofs.Walking.{RowSlot, slot_in, slot_next, slot_done, direct-bits, deep-bits}
use Rattle.slot_walk.proofs.Walking.{slot-is-block}

-- a slot of the k-th size, likewise
pub record CountSlot (table : Table) (levels at size k : ℕ) (counts : List ℕ) : Type 0 where
  pub slot : RowSlot table levels at size
  pub nth : size ≡ 2 ^ (table.start_bits + k)
  pub places : table.direct_bits - table.start_bits < length counts
  pub up_to_bytes : (k : ℕ) → slice_index counts k ≤ at

-- its slots counted in, whatever row it is of
pub record SlotCounted (table : Table) (size : ℕ) (before after : List ℕ) : Type 0 where
  pub at_any_row : (row : ℕ) → size ≡ 2 ^ row_bits table row
      → Tallied table (slot_sizes table (sizes table) row) before after

-- what the loops keep, l being the counts at the block's start and c those now
pub record Kept (t : Table) (l c : List ℕ) (here : ℕ) (whole left : List ℕ) : Type 0 where
  pub places : length c ≡ length l
  pub up_to_bytes : (k : ℕ) → slice_index c k ≤ here
  pub each_size : (k : ℕ) → k < length l
      → slice_index l k + of_size (2 ^ (t.start_bits + k)) whole
      ≡ slice_index c k + of_size (2 ^ (t.start_bits + k)) left

module _ {t : Table} where
  kept-all : {l : List ℕ} {a : ℕ} → ((k : ℕ) → slice_index l k ≤ a) → (whole : List ℕ) → Kept t l l a whole whole
  kept-all h whole = record { places = refl; up_to_bytes = h; each_size = λ k u. refl }

  kept_slot : (l c r xs whole left : List ℕ) (here size : ℕ) → Kept t l c here whole (xs ++ left) → Tallied t xs c r
      → sum xs ≡ size → Kept t l r (here + size) whole left
  kept_slot l c r xs whole left here size K T e = record {
    places = T.places ∙ K.places;
    up_to_bytes = still;
    each_size = λ k u.
        let d = of-size-append (2 ^ (t.start_bits + k)) xs left in
        omega (arith, K.places, K.each_size k u, T.each_size k (omega (arith, K.places)));
  }
    where
      still : (k : ℕ) → slice_index r k ≤ here + size
      still k =
          elim (cases_lt k (length c)) [
            | inl u ↦
                omega (
                  arith,
                  T.each_size k u,
                  K.up_to_bytes k,
                  of-size-le (2 ^ (t.start_bits + k)) xs (pow_pos (t.start_bits + k)),
                )
            | inr u ↦
                let z : slice_index r k ≡ 0 = get_or-eq_default r 0 {n = k} (omega (arith, T.places)) in
                omega arith
          ]

  kept-end : {l c whole : List ℕ} {here : ℕ} → Kept t l c here whole [] → Tallied t whole l c
  unfolding of_size
  kept-end K = record { places = K.places; each_size = λ k u. omega (arith, K.each_size k u) }

-- before a row, with the size's place among the sizes
pub record Rows (t : Table) (l c : List ℕ) (levels a e here size next place next_place : ℕ) : Type 0 where
  pub at : AtRow t (Kept t l c here) levels a e here size next
  pub places : t.direct_bits - t.start_bits < length c
  pub nth : size ≡ 2 ^ (t.start_bits + place)
  pub next-nth : next ≡ 2 ^ (t.start_bits + next_place)

-- in a row: from whatever the row began with
pub record Cols (t : Table) (c₀ c : List ℕ) (levels a e from here size next left : ℕ) : Type 0 where
  pub go : (l : List ℕ) → AtRow t (Kept t l c₀ from) levels a e from size next
      → InRow t (Kept t l c here) levels a e from here size next left

module _ {t : Table} {levels a e : ℕ} where
  pub rows_start : {l : List ℕ} {start : ℕ} → start ≡ 2 ^ t.start_bits → CountBlock t levels a e l
      → Rows t l l levels a e a start start 0 0
  rows_start {l} {start} s B = record {
    at = walk_start start s B.block (kept-all B.up_to_bytes);
    places = B.places;
    nth = s ∙ ap (λ (k : ℕ). 2 ^ k) (sym (add-zero t.start_bits));
    next-nth = s ∙ ap (λ (k : ℕ). 2 ^ k) (sym (add-zero t.start_bits));
  }

  pub cols_start : {c : List ℕ} {here size next width : ℕ} → width ≡ 2 ^ t.width_bits → here < e
      → Cols t c c levels a e here here size next width
  cols_start {c} {here} {size} {next} {width} v u = record { go = λ l I. row_start I width v u }

  module _ {l c₀ c : List ℕ} {from here size next place next_place cols : ℕ}
      (B : Rows t l c₀ levels a e from size next place next_place)
      (I : Cols t c₀ c levels a e from here size next cols) where
    inside : InRow t (Kept t l c here) levels a e from here size next cols
    inside = I.go l B.at

    same : length c ≡ length c₀
    same = inside.rest.places ∙ sym B.at.rest.places

    pub next_fits : next ≤ 2 ^ t.heap_bits
    next_fits = next_small inside

    pub place_fits : next_place ≤ t.heap_bits
    place_fits =
        let p : t.start_bits + next_place ≤ t.heap_bits = pow-upto (omega (arith, next_fits, B.next-nth)) in
        omega arith

    pub cols_end : cols ≡ 0
        → (Rows t l c levels a e here next (next + next) next_place (next_place + 1)) × (from < here) × (here ≤ e)
    cols_end z =
        let r = row-end inside z in
        let k = t.start_bits + next_place in
        let v : 2 ^ (t.start_bits + (next_place + 1)) ≡ 2 ^ suc k = ap (λ (y : ℕ). 2 ^ y) (omega arith) in (
          record {
            at = r.0;
            places = omega (arith, same, B.places);
            nth = B.next-nth;
            next-nth = omega (arith, B.next-nth);
          },
          r.1,
          r.2,
        )

    module _ (some : 0 < cols) where
      pub slot_asked : CountSlot t levels here size place c
      slot_asked = record {
        slot = slot_in inside some;
        nth = B.nth;
        places = omega (arith, same, B.places);
        up_to_bytes = (slot_next inside some).up_to_bytes;
      }

  pub rows_done : {l c : List ℕ} {here size next place next_place : ℕ}
      → Rows t l c levels a e here size next place next_place → e ≤ here → BlockCounted t a e l c
  rows_done {l} {c} B u = record {
    at_any_rows = λ n f.
        subst (λ (k : ℕ). Tallied t (sizes t k) l c) (rows_are B.at.block n f) (kept-end (walk_end B.at u));
  }

  module _ (g : t.start_bits ≤ t.direct_bits) (w : t.width_bits + t.start_bits ≤ suc t.direct_bits) where
    pub cols_more : {c₀ c r : List ℕ} {from here size next cols : ℕ} → Cols t c₀ c levels a e from here size next cols
        → 0 < cols → SlotCounted t size c r → Cols t c₀ r levels a e from (here + size) size next (cols - 1)
    cols_more {c₀} {c} {r} {from} {here} {size} I some S = record {
      go = λ l A.
          let i = I.go l A in
          slot_done i some (Kept t l r (here + size)) (here + size) refl
          (λ left K.
          kept_slot l c r (slot_sizes t (sizes t) i.row) (sizes t i.block.rows) left here size K
          (S.at_any_row i.row i.size_is)
          (slot-sum t g w i.row ∙ sym i.size_is));
    }

-- ---- one slot

module _ {t : Table} where
  module _ (g : t.start_bits ≤ t.direct_bits) (w : t.width_bits + t.start_bits ≤ suc t.direct_bits) where
    pub block-counted : {a z : ℕ} {l r : List ℕ} → 2 ^ t.direct_bits < z → BlockCounted t a (a + z) l r
        → SlotCounted t z l r
    block-counted {a} {z} {l} {r} d B = record {
      at_any_row = λ n e.
          let b = deep-bits t z n e d in
          subst (λ (y : List ℕ). Tallied t y l r) (sym (slot-block t n b))
          (B.at_any_rows (n - t.width_bits) (omega (arith, slot-rows t n g w b)));
    }

    pub block-asked : {levels a z k : ℕ} {l : List ℕ} → 2 ^ t.direct_bits < z → CountSlot t levels a z k l
        → (0 < levels) × CountBlock t (levels - 1) a (a + z) l
    block-asked d S =
        let B = slot-is-block g w d S.slot in
        (B.0, record { block = B.1; places = S.places; up_to_bytes = S.up_to_bytes })

  module _ {levels a z p : ℕ} {l : List ℕ} (d : z ≤ 2 ^ t.direct_bits) (S : CountSlot t levels a z p l) where
    place-bits : t.start_bits + p ≤ t.direct_bits
    place-bits = pow-upto (omega (arith, S.nth))

    place-small : p < length l
    place-small = omega (arith, place-bits, S.places)

    direct-counted : SlotCounted t z l (set l p (slice_index l p + 1))
    direct-counted = record {
      at_any_row = λ n e.
          subst (λ (y : List ℕ). Tallied t y l (set l p (slice_index l p + 1)))
          (sym (slot-own t n (direct-bits t z n e d) ∙ ap (λ (y : ℕ). y ∷ []) (sym e)))
          (record { places = length-set l p (slice_index l p + 1); each_size = counted_in });
    }
      where
        other : (k : ℕ) → (k ≡ p → ⊥)
            → slice_index (set l p (slice_index l p + 1)) k
            ≡ slice_index l k + of_size (2 ^ (t.start_bits + k)) (z ∷ [])
        other k h =
            let c = of-size-none z (2 ^ (t.start_bits + k))
            (λ q. h (omega (arith, pow-same (t.start_bits + k) (t.start_bits + p) (sym q ∙ S.nth)))) in
            let s : slice_index (set l p (slice_index l p + 1)) k ≡ slice_index l k =
            get_or-set_other l p k (slice_index l p + 1) 0 h in
            omega arith

        counted_in : (k : ℕ) → k < length l
            → slice_index (set l p (slice_index l p + 1)) k
            ≡ slice_index l k + of_size (2 ^ (t.start_bits + k)) (z ∷ [])
        counted_in k v =
            elim (cases_lt k p) [
              | inl h ↦ other k (λ q. omega arith)
              | inr h ↦ elim (cases_lt p k) [
                | inl y ↦ other k (λ q. omega arith)
                | inr y ↦
                    subst
                    (λ (j : ℕ). slice_index (set l p (slice_index l p + 1)) j
                    ≡ slice_index l j + of_size (2 ^ (t.start_bits + j)) (z ∷ []))
                    (let q : p ≡ k = omega arith in q)
                    (let s : slice_index (set l p (slice_index l p + 1)) p ≡ slice_index l p + 1 =
                    get_or-set_same l p (slice_index l p + 1) 0 place-small in
                    omega (arith, of-size-one z (2 ^ (t.start_bits + p)) S.nth))
              ]
            ]

-- ---- the slots of a direct row: so many of them are counted in at its end

abbrev pub with-slots : List ℕ → ℕ → ℕ → List ℕ
with-slots c p n = set c p (slice_index c p + n)

with-none : (c : List ℕ) (p : ℕ) → c ≡ with-slots c p 0
with-none c p = sym (ap (set c p) (add-zero (slice_index c p)) ∙ set-get_or c p 0)

with-one : (c : List ℕ) (p n : ℕ) → p < length c
    → with-slots (with-slots c p n) p 1 ≡ with-slots c p (n + 1)
with-one c p n l =
    let s : slice_index (with-slots c p n) p ≡ slice_index c p + n = get_or-set_same c p (slice_index c p + n) 0 l in
    set-set c p (slice_index c p + n) (slice_index (with-slots c p n) p + 1) ∙ ap (set c p) (omega arith)

module _ {t : Table} {levels a e : ℕ} where
  pub direct_start : {c : List ℕ} {here size next width : ℕ} (p : ℕ) → width ≡ 2 ^ t.width_bits → here < e
      → Cols t c (with-slots c p 0) levels a e here here size next width
  direct_start {c} {here} {size} {next} {width} p v u =
      subst (λ (y : List ℕ). Cols t c y levels a e here here size next width) (with-none c p) (cols_start v u)

  module _ {l c : List ℕ} {from size next place next_place : ℕ}
      (B : Rows t l c levels a e from size next place next_place) (d : size ≤ 2 ^ t.direct_bits) where
    pub row-bits : t.start_bits + place ≤ t.direct_bits
    row-bits = pow-upto (omega (arith, B.nth))

    pub row-place : place < length c
    row-place = omega (arith, row-bits, B.places)

    module _ {here cols : ℕ} (n : ℕ) (I : Cols t c (with-slots c place n) levels a e from here size next cols) where
      -- no more slots than bytes
      pub slots-fit : slice_index c place + n ≤ 2 ^ t.heap_bits
      slots-fit =
          let i = inside B I in
          let s : slice_index (with-slots c place n) place ≡ slice_index c place + n =
          get_or-set_same c place (slice_index c place + n) 0 row-place in
          omega (arith, i.rest.up_to_bytes place, row_in i, i.here-is, i.block.in_heap)

      pub one-slot : 0 < cols → SlotCounted t size (with-slots c place n) (with-slots c place (n + 1))
      one-slot some =
          subst (SlotCounted t size (with-slots c place n)) (with-one c place n row-place)
          (direct-counted d (slot_asked B I some))

  -- a row of which no slot is left
  pub cols_over : {c₀ c c' : List ℕ} {from here size next cols h : ℕ} → Cols t c₀ c levels a e from here size next cols
      → cols ≤ 0 → c' ≡ c → h ≡ here → Cols t c₀ c' levels a e from h size next 0
  cols_over {c₀} {c} {c'} {from} {here} {size} {next} {cols} {h} I z f g =
      subst (λ (y : List ℕ). Cols t c₀ y levels a e from h size next 0) (sym f)
      (subst (λ (k : ℕ). Cols t c₀ c levels a e from k size next 0) (sym g)
      (subst (Cols t c₀ c levels a e from here size next) (let q : cols ≡ 0 = omega arith in q) I))

-- ---- what so many rows span, row by row

pub record Ends (t : Table) (rows end size next row : ℕ) : Type 0 where
  pub some : 0 < rows
  pub up_to_largest : row ≤ max_rows t
  pub end_is : end ≡ row_offset t row
  pub size_is : size ≡ 2 ^ row_bits t row
  pub next-is : next ≡ 2 ^ row_bits t (suc row)

module _ {t : Table} {rows : ℕ} where
  pub ends_start : {start : ℕ} → 0 < rows → start ≡ 2 ^ t.start_bits → Ends t rows 0 start start 0
  ends_start p s = record {
    some = p;
    up_to_largest = zero-le;
    end_is = refl;
    size_is = s ∙ sym (ap (λ (k : ℕ). 2 ^ k) (add-zero t.start_bits));
    next-is = s ∙ sym (ap (λ (k : ℕ). 2 ^ k) (add-zero t.start_bits));
  }

  module _ (T : IsTable t) {end size next row' width : ℕ} (v : width ≡ 2 ^ t.width_bits)
      (I : Ends t rows end size next row') where
    abbrev span : ℕ
    span = width * size

    pub row-added : end + width * size ≡ row_offset t (suc row')
    row-added =
        let s = ap (λ (y : ℕ). 2 ^ t.width_bits * y) I.size_is in
        let m = ap (λ (y : ℕ). y * size) v in
        omega (arith, (row t row').ends, I.end_is)

    -- one more row than the heap has spans at most twice the heap
    pub row-small : end + width * size ≤ 2 ^ t.heap_bits + 2 ^ t.heap_bits
    row-small =
        let m : 2 ^ (t.start_bits + t.width_bits + row') ≤ 2 ^ suc t.heap_bits =
        pow_mono (omega (arith, I.up_to_largest, T.row_in_heap)) in
        omega (arith, row-added)

    pub next-small : next ≤ 2 ^ t.heap_bits + 2 ^ t.heap_bits
    next-small =
        let m : 2 ^ (t.start_bits + (suc row' - 1)) ≤ 2 ^ suc t.heap_bits =
        pow_mono (omega (arith, I.up_to_largest, T.row_in_heap)) in
        omega (arith, I.next-is)

    -- a row that ends past the heap is one too many
    pub rows-over : row' < rows → 2 ^ t.heap_bits < end + width * size → None ≡ heap_rows_end t rows
    rows-over l u =
        let n : ¬ (suc row' ≤ max_rows t) = λ m.
        omega (arith, row-mono t (suc row') (max_rows t) m, heap-span t T.row_in_heap, row-added) in
        grind (arith, nat_tests)

    pub ends_more : end + width * size ≤ 2 ^ t.heap_bits
        → Ends t rows (end + width * size) next (next + next) (row' + 1)
    ends_more u =
        let e : suc row' ≡ row' + 1 = omega arith in
        let n : ¬ (max_rows t < suc row') = λ m.
        omega (arith, row-strict t (max_rows t) (suc row') m, heap-span t T.row_in_heap, row-added) in
        record {
          some = I.some;
          up_to_largest = omega arith;
          end_is = row-added ∙ ap (row_offset t) e;
          size_is = I.next-is ∙ ap (λ (y : ℕ). 2 ^ row_bits t y) e;
          next-is = omega (arith, I.next-is, double t row', ap (λ (y : ℕ). 2 ^ row_bits t (suc y)) e);
        }

  pub ends-done : {end size next row' : ℕ} → Ends t rows end size next row' → row' ≡ rows
      → Some end ≡ heap_rows_end t rows
  ends-done I e =
      let m = I.up_to_largest in
      let p = I.some in
      let s : Some (row_offset t rows) ≡ heap_rows_end t rows = grind (arith, nat_tests) in
      ap Some (I.end_is ∙ ap (row_offset t) e) ∙ s

-- ---- the answer

zeros : (n k : ℕ) → slice_index (replicate {A = ℕ} n 0) k ≤ 0
zeros n k =
    elim (cases_lt k n) [
      | inl l ↦ let e : slice_index (replicate {A = ℕ} n 0) k ≡ 0 = get_or-replicate n k 0 0 l in omega arith
      | inr l ↦
          let e : slice_index (replicate {A = ℕ} n 0) k ≡ 0 =
          get_or-eq_default (replicate n 0) 0 {n = k} (omega (arith, length-replicate {A = ℕ} n 0)) in
          omega arith
    ]

-- what the rows that a heap has span, as their end is told
record Rooted (t : Table) (rows end : ℕ) : Type 0 where
  some : 0 < rows
  up_to_largest : rows ≤ max_rows t
  end_is : end ≡ row_offset t rows

rooted : (t : Table) (rows end : ℕ) → Some end ≡ heap_rows_end t rows → Rooted t rows end
rooted t rows end e = grind (arith, nat_tests)

module _ {t : Table} (T : IsTable t) (rows : ℕ) where
  module _ {end : ℕ} (e : Some end ≡ heap_rows_end t rows) where
    of-rows : Rooted t rows end
    of-rows = rooted t rows end e

    pub count-from_0 : (levels places : ℕ) → IsNested t levels (max_rows t) → t.direct_bits - t.start_bits < places
        → CountBlock t levels 0 end (replicate places 0)
    count-from_0 levels places N p =
        let R = of-rows in
        record {
          block = record {
            rows = rows;
            ends = omega (arith, R.end_is);
            in_heap = omega (arith, R.end_is, row-mono t rows (max_rows t) R.up_to_largest, heap-span t T.row_in_heap);
            nested = nested-fewer t levels rows (max_rows t) R.up_to_largest N;
          };
          places = omega (arith, length-replicate {A = ℕ} places 0);
          up_to_bytes = zeros places;
        }

    counts-are : (places : ℕ) (r : List ℕ) → Tallied t (sizes t rows) (replicate places 0) r
        → r ≡ of_sizes t.start_bits places (sizes t rows)
    counts-are places r Y =
        let n : length (replicate {A = ℕ} places 0) ≡ places = length-replicate places 0 in
        ext_get_or 0 r (of_sizes t.start_bits places (sizes t rows))
        (omega (arith, Y.places, of-sizes-length t.start_bits places (sizes t rows)))
        (λ i u.
        let v : i < places = omega (arith, Y.places) in
        let z : slice_index (replicate {A = ℕ} places 0) i ≡ 0 = get_or-replicate places i 0 0 v in
        let c : slice_index r i ≡ of_size (2 ^ (t.start_bits + i)) (sizes t rows) =
        omega (arith, Y.each_size i (omega arith)) in
        c ∙ sym (of-sizes-at t.start_bits places i (sizes t rows) v))

    pub counted : (places : ℕ) {r : List ℕ} → BlockCounted t 0 end (replicate places 0) r
        → Ok r ≡ slot_counts t places rows
    counted places {r} B =
        let R = of-rows in
        let s = R.some in
        let m = R.up_to_largest in
        let is : Ok (of_sizes t.start_bits places (sizes t rows)) ≡ slot_counts t places rows =
        grind (arith, nat_tests) in
        ap Ok (counts-are places r (B.at_any_rows rows (omega (arith, R.end_is)))) ∙ is

  pub not-counted : (places : ℕ) → None ≡ heap_rows_end t rows → Err (OutsideHeap rows) ≡ slot_counts t places rows
  not-counted places e = grind (arith, nat_tests)

  module _ (places : ℕ) {r : List ℕ} (e : Ok r ≡ slot_counts t places rows) where
    counts_is : r ≡ of_sizes t.start_bits places (sizes t rows)
    counts_is = grind (arith, nat_tests)

    -- what is counted fills the rows
    pub counts-span : t.direct_bits < t.start_bits + places → bytes_of t.start_bits r ≡ row_offset t rows
    counts-span p = ap (bytes_of t.start_bits) counts_is ∙ counts-fill t T places rows p

    -- and of each size there are as many as the format has
    pub counts-format : FormatCounts t places rows r
    counts-format k l =
        subst (SlotsOfSize t rows (2 ^ (t.start_bits + k)))
        (sym (ap (λ (counts : List ℕ). slice_index counts k) counts_is
        ∙ of-sizes-at t.start_bits places k (sizes t rows) l))
        (slots-counted t T rows (2 ^ (t.start_bits + k)))
