-- Counting along the list of slots, a slot at a time: what is left gives the answer.
use Rattle.std.proofs.Common.{ℕ, zero, suc, ◌+◌, ◌-◌, ◌*◌, ◌^◌, ◌≤◌, ◌<◌, ◌≡◌, refl, sym, ap, ◌∙◌, subst}
use Rattle.std.proofs.Common.{List, [], ◌∷◌, ◌++◌, inl, inr, arith}
use Rattle.std.proofs.Math.Nat.{add-zero}
use Rattle.std.proofs.lemmas.Bool.{cases_lt, lt-ltb, le-ltb}
use Rattle.std.proofs.lemmas.Bool.Decides.{nat_tests}
use Rattle.std.proofs.lemmas.Nat.{pow_pos}
use Rattle.std.specs.Prelude.{Option, Some, None, Result, Ok, Err, IfOk}
use Rattle.std.specs.Option.{ok_or}
use Rattle.refusals.specs.declared.FormatError.{FormatError}
use Rattle.refusals.specs.declared.FormatError.TheVariants.{OutsideHeap}
use Rattle.numbers.specs.Sums.{sum}
use Rattle.table.specs.Table.{Table, row_offset, max_rows}
use Rattle.table.specs.declared.Slot.{Slot}
use Rattle.table.proofs.Rows.{slot-rows}
use Rattle.table_laws.specs.Laws.{IsTable}
use Rattle.table_laws.proofs.Format.{heap-span}
use Rattle.slot_walk.specs.HeapOrder.{copies, slot_sizes, row_sizes, sizes, slots_from}
use Rattle.slot_walk.specs.Blocks.{IsNested, Block}
use Rattle.slot_walk.specs.Search.{first_past, counted_slot, Holds, BlockSearched}
use Rattle.slot_walk.proofs.Sums.{slot-own, slot-block, slot-sum, sum-copies, sizes-sum}
use Rattle.slot_walk.proofs.Listing.{Among, now, after, among-direct}
use Rattle.slot_walk.proofs.Walking.{AtRow, InRow, rows_are, walk_end, row_start, row_in, slot_next, after_slot}
use Rattle.slot_walk.proofs.Walking.{slot_done}
use Rattle.slot_walk.proofs.Walking.{direct-bits, deep-bits}

-- ---- the search over a list in two parts

module _ (x : ℕ) (ys : List ℕ) where
  first-found : (a : ℕ) (xs : List ℕ) (s : Slot) → first_past x (slots_from a xs) ≡ Some s
      → first_past x (slots_from a (xs ++ ys)) ≡ Some s
  unfolding first_past slots_from
  first-found a [] s h = absurd cc
  first-found a (z ∷ zs) s h = grind (arith, nat_tests, first-found (a + z) zs s)

  first-passed : (a : ℕ) (xs : List ℕ) → first_past x (slots_from a xs) ≡ None
      → first_past x (slots_from a (xs ++ ys)) ≡ first_past x (slots_from (a + sum xs) ys)
  unfolding first_past slots_from sum
  first-passed a [] h = ap (λ (k : ℕ). first_past x (slots_from k ys)) (sym (add-zero a))
  first-passed a (z ∷ zs) h =
      let e : a + (z + sum zs) ≡ a + z + sum zs = omega arith in
      grind (arith, nat_tests, first-passed (a + z) zs)

-- the first slot is the one, or it is passed
module _ (x a y : ℕ) (ys : List ℕ) where
  first-here : x < a + y → first_past x (slots_from a (y ∷ ys)) ≡ Some (record { start = a; size = y })
  unfolding first_past slots_from
  first-here l = rw (lt-ltb x (a + y) l, first_past) refl

  first-later : a + y ≤ x → first_past x (slots_from a (y ∷ ys)) ≡ first_past x (slots_from (a + y) ys)
  unfolding first_past slots_from
  first-later l = rw (le-ltb x (a + y) l, first_past) refl

-- past the last slot there is none
none-past : (x a : ℕ) (ys : List ℕ) → a + sum ys ≤ x → first_past x (slots_from a ys) ≡ None
unfolding first_past slots_from sum
none-past x a [] l = refl
none-past x a (y ∷ ys) l = grind (arith, nat_tests, none-past x (a + y) ys)

-- an offset that the list reaches is found, in one of its slots
pub record Hit (x a : ℕ) (zs : List ℕ) : Type 0 where
  pub slot : Slot
  pub found : first_past x (slots_from a zs) ≡ Some slot
  pub among : Among slot.start slot.size a zs
  pub from : slot.start ≤ x
  pub to : x < slot.start + slot.size

hit : (x a : ℕ) (zs : List ℕ) → a ≤ x → x < a + sum zs → Hit x a zs
unfolding first_past slots_from sum
hit x a [] l u = absurd (omega arith)
hit x a (z ∷ zs) l u =
    elim (cases_lt x (a + z)) [
      | inl v ↦ record {
        slot = record { start = a; size = z };
        found = first-here x a z zs v;
        among = now refl refl;
        from = l;
        to = v;
      }
      | inr v ↦
          let h = hit x (a + z) zs v (omega arith) in
          record {
            slot = h.slot;
            found = first-later x a z zs v ∙ h.found;
            among = after h.among;
            from = h.from;
            to = h.to;
          }
    ]

-- so is one before the first slot, where there is one
some-past : (x a z : ℕ) (zs : List ℕ) → x < a + sum (z ∷ zs)
    → (s : Slot) × (first_past x (slots_from a (z ∷ zs)) ≡ Some s)
unfolding sum
some-past x a z zs u =
    elim (cases_lt x (a + z)) [
      | inl v ↦ (record { start = a; size = z }, first-here x a z zs v)
      | inr v ↦ let h = hit x (a + z) zs v (omega arith) in (h.slot, first-later x a z zs v ∙ h.found)
    ]

-- ---- a row of direct slots, one slot fewer left with each

one-copy : (n : ℕ) (xs : List ℕ) → 0 < n → copies n xs ≡ xs ++ copies (n - 1) xs
unfolding copies
one-copy zero xs l = absurd (omega arith)
one-copy (suc n) xs l = ap (λ (k : ℕ). xs ++ copies k xs) (let e : n ≡ suc n - 1 = omega arith in e)

one-fewer : (n size : ℕ) → 0 < n → n * size ≡ suc (n - 1) * size
one-fewer n size l = ap (λ (k : ℕ). k * size) (let e : n ≡ suc (n - 1) = omega arith in e)

-- so many slots of one size from `start` on are left of all those from `at` on
pub record Left (at size all start left : ℕ) : Type 0 where
  pub ends : start + left * size ≡ at + all * size

module _ {at size all start left : ℕ} (L : Left at size all start left) where
  pub left_fits : 0 < left → start + size ≤ at + all * size
  left_fits l = omega (arith, L.ends, one-fewer left size l)

  pub left_passed : 0 < left → Left at size all (start + size) (left - 1)
  left_passed l = record { ends = omega (arith, L.ends, one-fewer left size l) }

  pub left_over : left ≡ 0 → start ≡ at + all * size
  left_over z = omega (arith, L.ends, ap (λ (k : ℕ). k * size) z)

-- and give the same slot
pub record SoughtInRow (x at size all start left : ℕ) : Type 0 where
  pub slots : Left at size all start left
  pub same : first_past x (slots_from at (copies all (size ∷ [])))
      ≡ first_past x (slots_from start (copies left (size ∷ [])))

module _ {x at size all start left : ℕ} (S : SoughtInRow x at size all start left) where
  one-next : 0 < left
      → first_past x (slots_from at (copies all (size ∷ [])))
      ≡ first_past x (slots_from start (size ∷ copies (left - 1) (size ∷ [])))
  one-next l =
      S.same ∙ ap (λ (ys : List ℕ). first_past x (slots_from start ys)) (one-copy left (size ∷ []) l)

  pub row_slot_found : 0 < left → x < start + size
      → Some (record { start = start; size = size }) ≡ first_past x (slots_from at (copies all (size ∷ [])))
  row_slot_found l u = sym (one-next l ∙ first-here x start size (copies (left - 1) (size ∷ [])) u)

  pub row_slot_passed : 0 < left → start + size ≤ x → SoughtInRow x at size all (start + size) (left - 1)
  row_slot_passed l u = record {
    slots = left_passed S.slots l;
    same = one-next l ∙ first-later x start size (copies (left - 1) (size ∷ [])) u;
  }

  pub row_without : left ≡ 0 → None ≡ first_past x (slots_from at (copies all (size ∷ [])))
  unfolding copies first_past slots_from
  row_without z =
      sym (S.same ∙ ap (λ (k : ℕ). first_past x (slots_from start (copies k (size ∷ [])))) z)

-- ---- what the loops keep: from here on the rest gives the same

pub record Sought (x a here : ℕ) (whole left : List ℕ) : Type 0 where
  pub same : first_past x (slots_from a whole) ≡ first_past x (slots_from here left)

pub sought-all : (x a : ℕ) (whole : List ℕ) → Sought x a a whole whole
sought-all x a whole = record { same = refl }

module _ {t : Table} {x levels a e : ℕ} where
  -- the block's answer, whatever number of rows fills it
  searched-by : (B : Block t levels a e) (r : Option Slot) → first_past x (slots_from a (sizes t B.rows)) ≡ r
      → BlockSearched t x a e r
  searched-by B r h =
      record { at_any_rows = λ n f. sym h ∙ ap (λ (k : ℕ). first_past x (slots_from a (sizes t k))) (rows_are B n f) }

  pub all-passed : {here size next : ℕ} → AtRow t (Sought x a here) levels a e here size next → e ≤ here
      → BlockSearched t x a e None
  unfolding first_past slots_from
  all-passed {here} I l = searched-by I.block None (walk_end I l).same

  module _ (g : t.start_bits ≤ t.direct_bits) (w : t.width_bits + t.start_bits ≤ suc t.direct_bits) where
    -- an indirect slot, opened: what its block gives
    module _ {from here size next cols : ℕ} (I : InRow t (Sought x a here) levels a e from here size next cols)
        (some : 0 < cols) (d : 2 ^ t.direct_bits < size) {r : Option Slot}
        (B : BlockSearched t x here (here + size) r) where
      this : r ≡ first_past x (slots_from here (slot_sizes t (sizes t) I.row))
      this =
          let b = deep-bits t size I.row I.size_is d in
          B.at_any_rows (I.row - t.width_bits) (omega (arith, I.size_is, slot-rows t I.row g w b))
          ∙ sym (ap (λ (ys : List ℕ). first_past x (slots_from here ys)) (slot-block t I.row b))

      pub found_inside : {s : Slot} → r ≡ Some s → BlockSearched t x a e (Some s)
      found_inside {s} f =
          searched-by I.block (Some s)
          ((slot_next I some).same ∙ first-found x (after_slot I some) here (slot_sizes t (sizes t) I.row) s
          (sym this ∙ f))

      pub none_inside : r ≡ None
          → InRow t (Sought x a (here + size)) levels a e from (here + size) size next (cols - 1)
      none_inside f =
          let fills : here + sum (slot_sizes t (sizes t) I.row) ≡ here + size =
          omega (arith, slot-sum t g w I.row, I.size_is) in
          slot_done I some (Sought x a (here + size)) (here + size) refl
          (λ left S. record {
            same = S.same
                ∙ first-passed x left here (slot_sizes t (sizes t) I.row) (sym this ∙ f)
                ∙ ap (λ (k : ℕ). first_past x (slots_from k left)) fills;
          })

    -- a row of direct slots, taken as a whole
    module _ {here size next width : ℕ} (A : AtRow t (Sought x a here) levels a e here size next)
        (v : width ≡ 2 ^ t.width_bits) (l : here < e) where
      abbrev I : InRow t (Sought x a here) levels a e here here size next width
      I = row_start A width v l

      abbrev xs : List ℕ
      xs = slot_sizes t (sizes t) I.row

      abbrev later : List ℕ
      later = row_sizes t (sizes t) (suc I.row) I.left

      pub row_in_heap : here + width * size ≤ 2 ^ t.heap_bits
      row_in_heap = omega (arith, I.here-is, row_in I, I.block.in_heap)

      fills : sum (copies width xs) ≡ width * size
      fills =
          sum-copies width xs
          ∙ ap (λ (y : ℕ). width * y) (let s : sum xs ≡ size = slot-sum t g w I.row ∙ sym I.size_is in s)

      pub row_passed : here + width * size ≤ x
          → InRow t (Sought x a (here + width * size)) levels a e here (here + width * size) size next 0
      unfolding copies
      row_passed u =
          let none = none-past x here (copies width xs) (omega (arith, fills)) in
          let moved : here + sum (copies width xs) ≡ here + width * size = omega (arith, fills) in
          let h = I.here-is in
          let m = I.moves in
          record {
            block = I.block;
            row = I.row;
            left = I.left;
            all = I.all;
            here-is = omega arith;
            moves = omega arith;
            size_is = I.size_is;
            next-is = I.next-is;
            rest = record {
              same = I.rest.same
                  ∙ first-passed x later here (copies width xs) none
                  ∙ ap (λ (k : ℕ). first_past x (slots_from k later)) moved;
            };
          }

      module _ (d : size ≤ 2 ^ t.direct_bits) (u : x < here + width * size) where
        abbrev one : List ℕ
        one = size ∷ []

        own : xs ≡ one
        own = slot-own t I.row (direct-bits t size I.row I.size_is d) ∙ sym (ap (λ (k : ℕ). k ∷ []) I.size_is)

        some : (s : Slot) × (first_past x (slots_from here (copies width one)) ≡ Some s)
        some =
            let p : 0 < width = omega (arith, v, pow_pos t.width_bits) in
            let first = one-copy width one p in
            let z : sum (one ++ copies (width - 1) one) ≡ width * size =
            ap sum (sym first) ∙ ap (λ (ys : List ℕ). sum (copies width ys)) (sym own) ∙ fills in
            let s = some-past x here size (copies (width - 1) one) (omega (arith, z)) in
            (s.0, ap (λ (ys : List ℕ). first_past x (slots_from here ys)) first ∙ s.1)

        pub row_found : {r : Option Slot} → r ≡ first_past x (slots_from here (copies width one))
            → BlockSearched t x a e r
        row_found {r} f =
            searched-by I.block r
            (I.rest.same
            ∙ ap (λ (ys : List ℕ). first_past x (slots_from here (copies width ys ++ later))) own
            ∙ first-found x later here (copies width one) some.0 some.1
            ∙ sym some.1
            ∙ sym f)

    -- a row of which no slot is left
    pub row_over : {from here size next cols h : ℕ} → InRow t (Sought x a here) levels a e from here size next cols
        → cols ≤ 0 → h ≡ here → InRow t (Sought x a h) levels a e from h size next 0
    row_over {from} {here} {size} {next} {cols} {h} I z f =
        subst (λ (k : ℕ). InRow t (Sought x a k) levels a e from k size next 0) (sym f)
        (subst (InRow t (Sought x a here) levels a e from here size next) (let q : cols ≡ 0 = omega arith in q) I)

-- ---- the whole heap

-- an offset in the heap is found, in a slot of the format
pub record Counted (t : Table) (x : ℕ) : Type 0 where
  pub slot : Slot
  pub counted : counted_slot t x ≡ Ok slot
  pub holds : Holds t x slot

module _ {t : Table} (T : IsTable t) where
  heap-sum : sum (sizes t (max_rows t)) ≡ 2 ^ t.heap_bits
  heap-sum = sizes-sum t T.start_in_direct T.row_in_indirect (max_rows t) ∙ heap-span t T.row_in_heap

  pub inside : (x : ℕ) → x < 2 ^ t.heap_bits → Counted t x
  inside x l =
      let h = hit x 0 (sizes t (max_rows t)) (omega arith) (omega (arith, heap-sum)) in
      record {
        slot = h.slot;
        counted = ap (λ (r : Option Slot). ok_or r (OutsideHeap x)) h.found;
        holds = record {
          direct = among-direct t T.start_in_direct T.row_in_indirect (max_rows t) h.among;
          from = h.from;
          to = h.to;
        };
      }

  pub outside : (x : ℕ) → 2 ^ t.heap_bits ≤ x → counted_slot t x ≡ Err (OutsideHeap x)
  outside x l =
      ap (λ (r : Option Slot). ok_or r (OutsideHeap x)) (none-past x 0 (sizes t (max_rows t)) (omega (arith, heap-sum)))

  module _ {e : ℕ} (q : e ≡ 2 ^ t.heap_bits) where
    -- the whole heap is a block
    pub heap-block : {levels : ℕ} → IsNested t levels (max_rows t) → Block t levels 0 e
    heap-block N = record {
      rows = max_rows t;
      ends = omega (arith, heap-span t T.row_in_heap);
      in_heap = omega arith;
      nested = N;
    }

    pub heap-searched : {x : ℕ} {r : Option Slot} → BlockSearched t x 0 e r
        → ok_or r (OutsideHeap x) ≡ counted_slot t x
    heap-searched {x} P =
        let z : e ≡ 0 + row_offset t (max_rows t) = omega (arith, heap-span t T.row_in_heap) in
        ap (λ (r : Option Slot). ok_or r (OutsideHeap x)) (P.at_any_rows (max_rows t) z)

  -- the slot that is counted to holds the offset
  pub holds-it : {x : ℕ} → x < 2 ^ t.heap_bits → (r : Result Slot FormatError) → r ≡ counted_slot t x
      → IfOk r (Holds t x)
  holds-it {x} l (Ok s) e =
      let C = inside x l in
      let same : C.slot ≡ s = (let c = C.counted in cc) in
      subst (Holds t x) same C.holds
  holds-it l (Err f) e = tt
