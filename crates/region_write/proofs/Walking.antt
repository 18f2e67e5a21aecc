-- The walk over indirect blocks: which way a slot goes, and which direct blocks are behind it.
use Rattle.std.proofs.Common.{le_refl, ◌⊎◌, inl, inr, ℕ, zero, suc, ◌+◌, ◌-◌, ◌^◌, ◌≤◌, ◌<◌, ◌≡◌, refl, sym, ◌∙◌, subst}
use Rattle.std.proofs.Common.{⊎_elim, List, [], ◌∷◌, arith, eq-or-lt_of_le, pow_pos}
use Rattle.std.proofs.lemmas.Bool.{cases_lt}
use Rattle.std.proofs.lemmas.Bool.Decides.{nat_tests}
use Rattle.table.specs.Table.{Table, row_bits, row_offset}
use Rattle.table.specs.Slots.{slot_at}
use Rattle.plan.specs.Plans.{sizes_at}
use Rattle.region_indirects.specs.Walk.{Walked, WalkedFrom, unplaced, direct, nothing, slot}
use Rattle.region_indirects.specs.Walk.{slots, smaller, block}
use Rattle.region_indirects.proofs.Walking.{slot-unplaced, slot-direct, slot-inner, smaller-block}
use Rattle.region_write.proofs.Geometry.{SlotAt, Ahead, done, slot_of, slot-end, all-ahead, BlockAt, inner-span}
use Rattle.region_write.proofs.Geometry.{own-slot, inner_block}
use Rattle.region_write.proofs.Starts.{Placed, none, more, before, from, before-yes, before-none, from-yes, from_all}
use Rattle.region_write.proofs.Starts.{from-placed, before-later, from-later, sizes-append}

-- what holds of a number if it holds of all smaller ones holds of every number
pub by-smaller : (P : ℕ → Type 0) → ((n : ℕ) → ((j : ℕ) → j < n → P j) → P n) → (n : ℕ) → P n
by-smaller P f n = f n (below n)
  where
    below : (m j : ℕ) → j < m → P j
    below zero j l = absurd (omega arith)
    below (suc m) j l =
        let within : j ≤ m = omega arith in
        ⊎_elim (λ (e : j ≡ m). subst P (sym e) (f m (below m))) (λ (u : j < m). below m j u) (eq-or-lt_of_le within)

-- ---- the ways of a slot

-- the three ways of a slot of row r at a heap offset, in a block of n rows: no placed block begins in it, it is
-- the first placed block, or it is an indirect block in which the first placed block begins
pub data Way (t : Table) (w header n r at pos next : ℕ) : List ℕ → Type 0 where
  empty : {ss : List ℕ} → before (at + 2 ^ row_bits t r) ss ≡ [] → from (at + 2 ^ row_bits t r) ss ≡ ss
      → slot t w header (smaller t w header n) r at ss pos next ≡ unplaced w ss next → Way t w header n r at pos next ss
  placed : {s : ℕ} {ss : List ℕ} → row_bits t r ≤ t.direct_bits → s ≡ at → (slot_at t s).size ≡ 2 ^ row_bits t r
      → Placed t (at + 2 ^ row_bits t r) ss
      → slot t w header (smaller t w header n) r at (s ∷ ss) pos next ≡ direct w (2 ^ row_bits t r) (s ∷ ss) next
      → Way t w header n r at pos next (s ∷ ss)
  deeper : {s : ℕ} {ss : List ℕ} → t.direct_bits < row_bits t r → s < at + 2 ^ row_bits t r
      → slot t w header (smaller t w header n) r at (s ∷ ss) pos next
      ≡ block t w header (r - t.width_bits) at (s ∷ ss) pos next → Way t w header n r at pos next (s ∷ ss)

module _ (t : Table) (g : t.start_bits ≤ t.direct_bits) (wd : t.width_bits + t.start_bits ≤ suc t.direct_bits)
    (w header : ℕ) where
  pub way : {n base r at : ℕ} {ss : List ℕ} → BlockAt t n base → SlotAt t n base r at → Placed t at ss
      → (pos next : ℕ) → Way t w header n r at pos next ss
  unfolding before from
  way {n} {base} {r} {at} B C none pos next =
      empty refl refl (slot-unplaced t w header (smaller t w header n) r at [] pos next refl refl)
  way {n} {base} {r} {at} B C (more {s = s} {ss = ss} v S P) pos next =
      go (cases_lt s end) (cases_lt t.direct_bits (row_bits t r))
    where
      inn : ℕ → WalkedFrom
      inn = smaller t w header n

      end : ℕ
      end = at + 2 ^ row_bits t r

      go : (s < end) ⊎ (end ≤ s) → (t.direct_bits < row_bits t r) ⊎ (row_bits t r ≤ t.direct_bits)
          → Way t w header n r at pos next (s ∷ ss)
      go (inl i) (inr d) =
          let own = own-slot t g wd B C s (slot_at t s).size S d v i in
          let own0 = own.0 in
          let own1 = own.1 in
          let ends : s + (slot_at t s).size ≡ end = omega arith in
          placed d own.0 own.1 (rw ends at P)
          (slot-direct t w header inn r at (s ∷ ss) pos next refl (grind (arith, nat_tests)) (grind (arith, nat_tests)))
      go (inl i) (inl d) =
          let row_in = C.row_in in
          let inner =
          slot-inner t w header inn r at (s ∷ ss) pos next refl (grind (arith, nat_tests)) (grind (arith, nat_tests)) in
          deeper d i (inner ∙ smaller-block t w header n (r - t.width_bits) (omega arith) at (s ∷ ss) pos next)
      go (inr i) d =
          let R : Placed t end (s ∷ ss) = more {lo = end} {s = s} (omega arith) S P in
          let none = slot-unplaced t w header inn r at (s ∷ ss) pos next refl (grind (arith, nat_tests)) in
          empty (before-none end (omega arith) R) (from_all end (omega arith) R) none

-- ---- what is behind a walk

-- a walk that comes to a heap offset leaves the blocks from there on, and the address behind the others
pub record Cut (t : Table) (o : Walked) (ss : List ℕ) (next end : ℕ) : Type 0 where
  pub rest-is : o.rest ≡ from end ss
  pub next-is : o.next ≡ next + sizes_at t (before end ss)

-- the blocks left are placed from there on
pub cut-placed : {t : Table} {o : Walked} {ss : List ℕ} {at next end : ℕ} → Cut t o ss next end → Placed t at ss
    → Placed t end o.rest
cut-placed {t} {end = end} C P = subst (Placed t end) (sym C.rest-is) (from-placed end P)

cut-nothing : {t : Table} {at : ℕ} {ss : List ℕ} (next : ℕ) → Placed t at ss → Cut t (nothing ss next) ss next at
unfolding sizes_at
cut-nothing {t} {at} {ss} next P =
    grind (arith, before-none at (le_refl at) P, from_all at (le_refl at) P)

-- a walk after another
cut-then : {t : Table} {c o : Walked} {ss : List ℕ} {next lo hi : ℕ} → lo ≤ hi → Cut t c ss next lo
    → Cut t o c.rest c.next hi → Cut t o ss next hi
cut-then {t} {ss = ss} {lo = lo} {hi = hi} l C O =
    grind (
      arith,
      before-later lo hi ss l,
      from-later lo hi ss l,
      sizes-append t (before lo ss)
          (before hi (from lo ss)),
    )

module _ (t : Table) (g : t.start_bits ≤ t.direct_bits) (wd : t.width_bits + t.start_bits ≤ suc t.direct_bits)
    (w header : ℕ) where
  abbrev pub CutBlock : ℕ → Type 0
  CutBlock n = (at : ℕ) (ss : List ℕ) (pos next : ℕ) → BlockAt t n at → Placed t at ss
      → Cut t (block t w header n at ss pos next) ss next (at + row_offset t n)

  module _ {n base : ℕ} (blocks : (j : ℕ) → j < n → CutBlock j) (B : BlockAt t n base) where
    slot-cut-from : {r at : ℕ} {ss : List ℕ} (pos next : ℕ) → SlotAt t n base r at → Placed t at ss
        → Cut t (slot t w header (smaller t w header n) r at ss pos next) ss next (at + 2 ^ row_bits t r)
    unfolding sizes_at
    slot-cut-from {r} {at} pos next C P = go (way t g wd w header B C P pos next) P
      where
        end : ℕ
        end = at + 2 ^ row_bits t r

        go : {ss : List ℕ} → Way t w header n r at pos next ss → Placed t at ss
            → Cut t (slot t w header (smaller t w header n) r at ss pos next) ss next end
        go (empty b f q) P = grind arith
        go (placed {s = s} {ss = ss} d a z R q) P =
            let begun : s < end = omega (arith, pow_pos (row_bits t r)) in
            let none = before-none end (le_refl end) R in
            let all = from_all end (le_refl end) R in
            grind (arith, before-yes s ss end begun, from-yes s ss end begun)
        go (deeper {s = s} {ss = ss} d hi q) P =
            let row_in = C.row_in in
            let inner = blocks (r - t.width_bits) (omega arith) at (s ∷ ss) pos next (inner_block t g wd B C d) P in
            rw q (rw (inner-span t g wd r d) at inner)

    slots-cut-from : {at : ℕ} {rs ss : List ℕ} → Ahead t n base at rs → (pos next : ℕ) → Placed t at ss
        → Cut t (slots t w header (smaller t w header n) rs at ss pos next) ss next (base + row_offset t n)
    unfolding slots
    slots-cut-from {at} {ss = ss} (done q) pos next P = subst (Cut t (nothing ss next) ss next) q (cut-nothing next P)
    slots-cut-from {at} {ss = ss} (slot_of {r = r} S A) pos next P =
        let C = slot-cut-from pos next S P in
        let O = cut-then (slot-end t S) C (slots-cut-from A _ _ (cut-placed C P)) in
        record { rest-is = O.rest-is; next-is = O.next-is }

  block-cut-from : (n : ℕ) → ((j : ℕ) → j < n → CutBlock j) → CutBlock n
  unfolding block
  block-cut-from n blocks at ss pos next B P = let C = slots-cut-from blocks B (all-ahead t n at) pos next P in
      record { rest-is = C.rest-is; next-is = C.next-is }

  -- a block
  pub block-cut : (n : ℕ) → CutBlock n
  block-cut = by-smaller CutBlock block-cut-from

  -- a slot
  pub slot-cut : {n base r at : ℕ} {ss : List ℕ} (pos next : ℕ) → BlockAt t n base → SlotAt t n base r at
      → Placed t at ss → Cut t (slot t w header (smaller t w header n) r at ss pos next) ss next (at + 2 ^ row_bits t r)
  slot-cut pos next B C P = slot-cut-from (λ j _. block-cut j) B pos next C P
