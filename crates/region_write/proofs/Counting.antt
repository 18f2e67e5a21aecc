-- The indirect blocks that the walk yields take as many bytes as are counted while direct blocks open.
use Rattle.std.proofs.Common.{le_refl, ℕ, zero, suc, ◌+◌, ◌-◌, ◌*◌, ◌/◌, ◌^◌, ◌≤◌, ◌<◌, ◌≡◌, refl, ap, ◌∙◌}
use Rattle.std.proofs.Common.{List, [], ◌∷◌, ◌++◌, arith, length, length-append, pow_pos}
use Rattle.std.proofs.Math.Nat.{sub-zero}
use Rattle.std.proofs.lemmas.Bool.Decides.{nat_tests}
use Rattle.table.specs.Table.{Table, row_bits, row_offset, row_of}
use Rattle.table.specs.Slots.{slot_at, slot_start, entered_bytes_in, entered_bytes}
use Rattle.table.specs.Sizes.{indirect_size}
use Rattle.table.proofs.Rows.{row, row-of-is, heap-rows}
use Rattle.table.proofs.Slots.{slot-some}
use Rattle.plan.specs.Plans.{sizes_at}
use Rattle.region_indirects.specs.Walk.{Walked, both, slot, slots, smaller, all_slots, block}
use Rattle.region_indirects.proofs.Walking.{block-length}
use Rattle.region_write.proofs.Geometry.{cell-end, SlotAt, Ahead, done, slot_of, slot-end, all-ahead, BlockAt}
use Rattle.region_write.proofs.Geometry.{inner-span, root-block, inner_block}
use Rattle.region_write.proofs.Starts.{Placed, none, more, before, from, last_end, before-yes, before-none}
use Rattle.region_write.proofs.Starts.{before-later, end-append, before-whole, from-none}
use Rattle.region_write.proofs.Walking.{by-smaller, Way, empty, placed, deeper, way, cut-placed, slot-cut, block-cut}

-- the bytes of the indirect blocks that direct blocks at ss open in the indirect block at `at`, f deep, where the
-- one before them ended at e
unfoldable pub counted : Table → ℕ → ℕ → ℕ → ℕ → List ℕ → ℕ
counted t w f at e [] = 0
counted t w f at e (s ∷ ss) = entered_bytes_in t w f e at (s - at) + counted t w f at (s + (slot_at t s).size) ss

counted-append : (t : Table) (w f at e : ℕ) (cs ds : List ℕ)
    → counted t w f at e (cs ++ ds) ≡ counted t w f at e cs + counted t w f at (last_end t e cs) ds
unfolding counted last_end
counted-append t w f at e [] ds = omega arith
counted-append t w f at e (c ∷ cs) ds = omega (arith, counted-append t w f at (c + (slot_at t c).size) cs ds)

slot-number : (m b r : ℕ) → r < 2 ^ b → (m * 2 ^ b + r) / 2 ^ b ≡ m
slot-number m b r l = grind arith

-- a direct block at s, in a slot of row r of the block at `base`
module _ (t : Table) (w s : ℕ) {n base r at : ℕ} (C : SlotAt t n base r at) (lo : at ≤ s)
    (hi : s < at + 2 ^ row_bits t r) (heap : s < 2 ^ t.heap_bits) where
  row_is : row_of t (s - base) ≡ r
  row_is =
      let q = C.is in
      let k = cell-end t r C.col C.col-in in
      row-of-is t (s - base) r (heap-rows t (s - base) (omega arith)) (omega arith) (omega arith)

  start_is : base + slot_start t (s - base) ≡ at
  start_is =
      let b = row_bits t r in
      let m = (row t r).m + C.col in
      let x : s - base ≡ m * 2 ^ b + (s - at) = omega (arith, C.is, (row t r).begins) in
      let d : (s - base) / 2 ^ b ≡ m = ap (λ y. y / 2 ^ b) x ∙ slot-number m b (s - at) (omega arith) in
      let f : (s - base) / 2 ^ b * 2 ^ b ≡ m * 2 ^ b = ap (λ y. y * 2 ^ b) d in
      ap (λ y. base + (s - base) / 2 ^ row_bits t y * 2 ^ row_bits t y) row_is ∙ omega arith

  rest_is : s - base - slot_start t (s - base) ≡ s - at
  rest_is = omega (arith, start_is)

  entered-direct : (f e : ℕ) → row_bits t r ≤ t.direct_bits → entered_bytes_in t w f e base (s - base) ≡ 0
  unfolding entered_bytes_in
  entered-direct zero e d = refl
  entered-direct (suc f) e d = grind (arith, nat_tests, row_is)

  -- the first direct block in an indirect slot brings the block there
  entered-new : (f e : ℕ) → t.direct_bits < row_bits t r → e ≤ at
      → entered_bytes_in t w (suc f) e base (s - base)
      ≡ indirect_size t w (r - t.width_bits) + entered_bytes_in t w f e at (s - at)
  unfolding entered_bytes_in
  entered-new f e d l = grind (arith, nat_tests, row_is, start_is, rest_is)

  -- the later ones do not
  entered-old : (f e : ℕ) → t.direct_bits < row_bits t r → at < e
      → entered_bytes_in t w (suc f) e base (s - base) ≡ entered_bytes_in t w f e at (s - at)
  unfolding entered_bytes_in
  entered-old f e d l = grind (arith, nat_tests, row_is, start_is, rest_is)

-- ---- what is counted is what the walk yields

-- the indirect blocks before a heap offset, and the end of the direct block before it
pub record Sized (t : Table) (w f at e : ℕ) (o : Walked) (ss : List ℕ) (end : ℕ) : Type 0 where
  pub bytes-are : length o.bytes ≡ counted t w f at e (before end ss)
  pub ends : last_end t e (before end ss) ≤ end

-- no direct block before it
sized-none : {t : Table} {w f at e end : ℕ} {o : Walked} {ss : List ℕ} → o.bytes ≡ [] → before end ss ≡ [] → e ≤ end
    → Sized t w f at e o ss end
unfolding counted last_end
sized-none q b l = grind arith

sized-both : {t : Table} {w f at e lo hi : ℕ} {c o : Walked} {ss : List ℕ} → lo ≤ hi → c.rest ≡ from lo ss
    → Sized t w f at e c ss lo
    → Sized t w f at (last_end t e (before lo ss)) o c.rest hi → Sized t w f at e (both c o) ss hi
sized-both {t} {w} {f} {at} {e} {lo} {hi} {ss = ss} l q C O =
    let front = before lo ss in
    let back = before hi (from lo ss) in
    let counts = counted-append t w f at e front back in
    let end = end-append t e front back in
    grind (arith, before-later lo hi ss l, length-append {A = ℕ})

module _ (t : Table) (w f : ℕ) {n base r at : ℕ} (C : SlotAt t n base r at) (d : t.direct_bits < row_bits t r) where
  -- the direct blocks in an indirect slot after the first
  later : {e : ℕ} {ss : List ℕ} → at < e → Placed t e ss
      → counted t w (suc f) base e (before (at + 2 ^ row_bits t r) ss)
      ≡ counted t w f at e (before (at + 2 ^ row_bits t r) ss)
  unfolding counted before
  later l none = refl
  later {e} l (more {s = s} v S P) =
      let old = λ (i : s < at + 2 ^ row_bits t r). entered-old t w s C (omega arith) i S.inside f e d l in
      grind (arith, nat_tests, later {e = s + (slot_at t s).size} (omega arith) P)

  -- all of them: the first brings the block there
  first-and-later : (e s : ℕ) (ss : List ℕ) → e ≤ at → s < at + 2 ^ row_bits t r → Placed t at (s ∷ ss)
      → counted t w (suc f) base e (before (at + 2 ^ row_bits t r) (s ∷ ss))
      ≡ indirect_size t w (r - t.width_bits) + counted t w f at e (before (at + 2 ^ row_bits t r) (s ∷ ss))
  unfolding counted
  first-and-later e s ss l i (more v S P) =
      let p = slot-some t s in
      let a = entered-new t w s C v i S.inside f e d l in
      let b = later {e = s + (slot_at t s).size} (omega arith) P in
      rw (before-yes s ss (at + 2 ^ row_bits t r) i) (omega arith)

-- rows 0 and 1 have the starting size
first-row : (t : Table) (r : ℕ) → t.start_bits ≤ t.direct_bits → r ≤ 1 → row_bits t r ≤ t.direct_bits
first-row t r g l = omega arith

module _ (t : Table) (g : t.start_bits ≤ t.direct_bits) (wd : t.width_bits + t.start_bits ≤ suc t.direct_bits)
    (w header : ℕ) where
  abbrev SizedBlock : ℕ → Type 0
  SizedBlock n = (f at e : ℕ) (ss : List ℕ) (pos next : ℕ) → n ≤ suc f → BlockAt t n at → Placed t at ss → e ≤ at
      → Sized t w f at e (all_slots t w header n at ss pos next) ss (at + row_offset t n)

  module _ {n base : ℕ} (f : ℕ) (blocks : (j : ℕ) → j < n → SizedBlock j) (fuel : n ≤ suc f)
      (B : BlockAt t n base) where
    slot-sized : {r at e : ℕ} {ss : List ℕ} (pos next : ℕ) → SlotAt t n base r at → Placed t at ss → e ≤ at
        → Sized t w f base e (slot t w header (smaller t w header n) r at ss pos next) ss (at + 2 ^ row_bits t r)
    unfolding counted last_end
    slot-sized {r} {at} {e} pos next C P k = go f fuel (way t g wd w header B C P pos next) P
      where
        end : ℕ
        end = at + 2 ^ row_bits t r

        go : (f : ℕ) → n ≤ suc f → {ss : List ℕ} → Way t w header n r at pos next ss → Placed t at ss
            → Sized t w f base e (slot t w header (smaller t w header n) r at ss pos next) ss end
        go f m (empty b _ o) P = rw o (sized-none refl b (omega arith))
        go f m (placed {s = s} {ss = ss} d a z R o) (more v S P) =
            let begun : s < end = omega (arith, pow_pos (row_bits t r)) in
            let none = before-none end (le_refl end) R in
            let entered = entered-direct t w s C v begun S.inside f e d in
            grind (arith, before-yes s ss end begun)
        go zero m (deeper d hi o) P = absurd (omega (arith, C.row_in, first-row t r g (omega (arith, C.row_in))))
        go (suc f) m (deeper {s = s} {ss = ss} d hi o) P =
            let j : ℕ = r - t.width_bits in
            let row_in = C.row_in in
            let inner = blocks j (omega arith) f at e (s ∷ ss) pos next (omega arith) (inner_block t g wd B C d) P k in
            let long = block-length t w header j at (s ∷ ss) pos next in
            let counts = first-and-later t w f C d e s ss k hi P in
            let span = inner-span t g wd r d in
            grind arith

    slots-sized : {at e : ℕ} {rs ss : List ℕ} (pos next : ℕ) → Ahead t n base at rs → Placed t at ss → e ≤ at
        → Sized t w f base e (slots t w header (smaller t w header n) rs at ss pos next) ss (base + row_offset t n)
    unfolding slots
    slots-sized pos next (done q) P k =
        sized-none refl (before-none (base + row_offset t n) (omega arith) P) (omega arith)
    slots-sized pos next (slot_of S A) P k =
        let C = slot-cut t g wd w header pos next B S P in
        let Z = slot-sized pos next S P k in
        sized-both (slot-end t S) C.rest-is Z (slots-sized _ _ A (cut-placed C P) Z.ends)

  slots-of-sized : (n : ℕ) → SizedBlock n
  slots-of-sized =
      by-smaller SizedBlock
      (λ n blocks f at e ss pos next m B P k. slots-sized f blocks m B pos next (all-ahead t n at) P k)

-- ---- the root

-- the bytes of the indirect blocks that direct blocks at ss open, where the one before them ended at e
unfoldable pub opened_by : Table → ℕ → ℕ → List ℕ → ℕ
opened_by t w e [] = 0
opened_by t w e (s ∷ ss) = entered_bytes t w e s + opened_by t w (s + (slot_at t s).size) ss

counted-root : (t : Table) (w e : ℕ) (ss : List ℕ) → counted t w t.heap_bits 0 e ss ≡ opened_by t w e ss
unfolding counted opened_by
counted-root t w e [] = refl
counted-root t w e (s ∷ ss) =
    let a = ap (entered_bytes_in t w t.heap_bits e 0) (sub-zero s) in
    let b = counted-root t w (s + (slot_at t s).size) ss in
    omega arith

-- all indirect blocks of a root of n rows: how long those before it are and all of them, and nothing is left
pub record Whole (t : Table) (w header n : ℕ) (ss : List ℕ) (pos next : ℕ) : Type 0 where
  pub children-are : length (all_slots t w header n 0 ss pos next).bytes ≡ opened_by t w 0 ss
  pub bytes-are : length (block t w header n 0 ss pos next).bytes ≡ opened_by t w 0 ss + indirect_size t w n
  pub next-is : (block t w header n 0 ss pos next).next ≡ next + sizes_at t ss
  pub rest-is : (block t w header n 0 ss pos next).rest ≡ []

-- where its rows reach the last direct block's end, and `entered` counts as deep as they go
pub whole : (t : Table) → t.start_bits ≤ t.direct_bits → t.width_bits + t.start_bits ≤ suc t.direct_bits
    → t.start_bits ≤ t.heap_bits
    → (w header n : ℕ) (ss : List ℕ) (pos next : ℕ) → n ≤ suc t.heap_bits → Placed t 0 ss
    → last_end t 0 ss ≤ row_offset t n → Whole t w header n ss pos next
whole t g wd k w header n ss pos next few P reach =
    let B = root-block t g wd n k in
    let Z = slots-of-sized t g wd w header n t.heap_bits 0 0 ss pos next few B P (omega arith) in
    let C = block-cut t g wd w header n 0 ss pos next B P in
    let a = before-whole (0 + row_offset t n) P (omega arith) in
    let c : length (all_slots t w header n 0 ss pos next).bytes ≡ opened_by t w 0 ss =
    Z.bytes-are ∙ ap (counted t w t.heap_bits 0 0) a ∙ counted-root t w 0 ss in
    record {
      children-are = c;
      bytes-are = block-length t w header n 0 ss pos next ∙ ap (λ (y : ℕ). y + indirect_size t w n) c;
      next-is = C.next-is ∙ ap (λ (v : List ℕ). next + sizes_at t v) a;
      rest-is = C.rest-is ∙ from-none (0 + row_offset t n) P (omega arith);
    }
