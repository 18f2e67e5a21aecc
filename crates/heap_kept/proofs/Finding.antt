-- At any table, however blocks are taken: the reader's walk over written indirect blocks comes to the direct block that
-- holds the wanted heap offset.
use Rattle.std.proofs.Common.{◌≡◌, ℕ, zero, suc, ◌+◌, ◌-◌, ◌*◌, ◌^◌, ◌<◌, ◌≤◌, true, ◌⊎◌, inl, inr, List, [], ◌∷◌}
use Rattle.std.proofs.Common.{◌++◌, length, drop, Option, Result, sym, ap, ap₂, ◌∙◌, subst, arith, length-append}
use Rattle.std.proofs.Math.Decide.{dec_lt}
use Rattle.fields.specs.LittleEndian.{le}
use Rattle.fields.specs.Widths.{legal}
use Rattle.table.specs.Table.{Table, row_bits, row_offset}
use Rattle.table.specs.Sizes.{offset_bytes}
use Rattle.table.specs.Slots.{slot_at}
use Rattle.table_laws.proofs.Format.{SlotOf, direct-local}
use Rattle.plan.specs.Plans.{sizes_at}
use Rattle.region_indirects.specs.Walk.{Walked, all_slots, block}
use Rattle.region_indirects.proofs.Walking.{slot-entry, block-entries}
use Rattle.region_write.proofs.Starts.{Placed, more, before, from, before-yes, before-no, from-placed, before-later}
use Rattle.region_write.proofs.Starts.{from-later, sizes-append}
use Rattle.region_write.proofs.Geometry.{SlotAt, slot-end, BlockAt, inner-span, own-slot, inner_block}
use Rattle.region_write.proofs.Walking.{by-smaller, Way, empty, placed, deeper, way, Cut, slot-cut}
use Rattle.reading.specs.declared.rows.DoublingTable.{DoublingTable}
use Rattle.reading.specs.declared.children.HeapChild.{HeapChild}
use Rattle.fields.specs.declared.place.Place.{Place}
use Rattle.refusals.specs.declared.FormatError.{FormatError}
use Rattle.reading.specs.Walk.{Taking}
use Rattle.heap_kept.specs.Walking.{HasBytes, GivesRows, IsToCome, Opens, Finds, PlacedBlocksFound}
use Rattle.heap_kept.proofs.Entries.{entry-passed, entry-taken}
use Rattle.heap_kept.proofs.Standing.{Stands, in_slot, block-stands, onward, walk-scans}
use Rattle.heap_kept.proofs.Scanning.{Settled, Passed, leads-inside, scanned}

-- ---- the block that is sought

module _ {t : Table} {b a : ℕ} {bs : List ℕ} where
  -- what begins before it may be passed
  coming-later : {at end : ℕ} {ss : List ℕ} {next : ℕ} {o : Walked} → end ≤ b → Cut t o ss next end
      → IsToCome t b a bs at ss next → IsToCome t b a bs end o.rest o.next
  coming-later {end = end} {ss = ss} {o = o} l C S =
      let p = C.next-is in
      let q = ap (λ (v : List ℕ). sizes_at t (before b v)) C.rest-is in
      let r = ap (sizes_at t) (before-later end b ss l) ∙ sizes-append t (before end ss) (before b (from end ss)) in
      let z = S.address_is in
      record {
        placed = rw C.rest-is (from-placed end S.placed);
        not_passed = l;
        in_list = ap (from b) C.rest-is ∙ sym (from-later end b ss l) ∙ S.in_list;
        address_is = omega arith;
      }

  -- it begins before every later offset
  coming-some : {at : ℕ} {ss : List ℕ} {next : ℕ} (end : ℕ) → IsToCome t b a bs at ss next → b < end
      → before end ss ≡ [] → ⊥
  coming-some {ss = ss} end S l e =
      let f = ap (before end) S.in_list ∙ before-yes b bs end l in
      let n = ap length (sym e ∙ before-later b end ss (omega arith) ∙ ap (λ (v : List ℕ). before b ss ++ v) f)
      ∙ length-append (before b ss) (b ∷ before end bs) in
      let z : 0 ≡ length (before b ss) + suc (length (before end bs)) = n in
      omega arith

  coming-slot : {at : ℕ} {ss : List ℕ} {next : ℕ} → IsToCome t b a bs at ss next → SlotOf t b (slot_at t b).size
  coming-slot S = first (subst (Placed t b) S.in_list (from-placed b S.placed))
    where
      first : {lo s : ℕ} {ss : List ℕ} → Placed t lo (s ∷ ss) → SlotOf t s (slot_at t s).size
      first (more l s P) = s

  -- the first of them is the one that begins at or after it
  coming-first : {at s : ℕ} {ss : List ℕ} {next : ℕ} → IsToCome t b a bs at (s ∷ ss) next → b ≤ s → next ≡ a
  unfolding sizes_at
  coming-first {s = s} {ss = ss} S l = let e = ap (sizes_at t) (before-no s ss b l) in let z = S.address_is in
      omega arith

-- ---- the walk

module _ (t : Table) (g : t.start_bits ≤ t.direct_bits) (wd : t.width_bits + t.start_bits ≤ suc t.direct_bits)
    (w header : ℕ) (d : DoublingTable) (N : ℕ) (A : GivesRows d t N) (F : List ℕ) (ok : legal w ≡ true)
    (target len : ℕ) (taking : Taking) (O : Opens t w header F target taking)
    (b a : ℕ) (bs : List ℕ) (lo : b ≤ target) (hi : target < b + (slot_at t b).size)
    (last : a < 2 ^ (8 * w) - 1) where
  abbrev Wanted : Result Place FormatError
  Wanted = taking.object a (slot_at t b).size b

  -- the walk from a block of n rows comes to the block at b
  abbrev FindsFrom : ℕ → Type 0
  FindsFrom n = Finds t w header d N F target len taking b a bs n

  module _ {n base : ℕ} (finds : (j : ℕ) → j < n → FindsFrom j) (few : n ≤ N)
      (top : base + row_offset t n < 2 ^ 64) (B : BlockAt t n base) (depth : ℕ) (deep : n ≤ depth) (s : List ℕ) where
    abbrev then : Result (Option HeapChild) FormatError → Result Place FormatError
    then = onward taking d F w target len depth

    module _ {r at : ℕ} (C : SlotAt t n base r at) where
      abbrev z : ℕ
      z = 2 ^ row_bits t r

      fits : at + z < 2 ^ 64
      fits = let f = slot-end t C in omega arith

      -- the slot in which the block at b begins
      taken : {ss : List ℕ} {pos next : ℕ} (e : ℕ) → Way t w header n r at pos next ss
          → IsToCome t b a bs at ss next → b < at + z → Stands F s w pos e (in_slot t w header n r at ss pos next)
          → Settled d then Wanted s w target r e at
      taken e (empty none _ q) S u H rs = absurd (coming-some (at + z) S u none)
      taken {next = next} e (placed {s = s₁} {ss = ss} dr is size R q) S u H rs =
          let o = own-slot t g wd B C b (slot_at t b).size (coming-slot S) dr S.not_passed u in
          let o0 = o.0 in
          let o1 = o.1 in
          let x : next ≡ a = coming-first S (omega arith) in
          let v = C.row_in in
          rw (
            entry-taken d s w target r rs e at z (A.slot_sizes r (omega arith)) ok fits (omega arith)
                (omega arith) a last (subst (λ (y : ℕ). HasBytes s e (le w y)) x
                (subst (λ (o : Walked). HasBytes s e o.entries) q H.entries)),
            A.direct_children r a at (omega arith)
                dr,
          )
          (ap₂ (λ (x y : ℕ). taking.object a x y) (sym o1) (sym o0))
      taken {pos = pos} {next = next} e (deeper {s = s₁} {ss = ss} dr h q) S u H rs =
          let j : ℕ = r - t.width_bits in
          let f : row_offset t j ≡ z = inner-span t g wd r dr in
          let I = inner_block t g wd B C dr in
          let l = S.not_passed in
          let i = (direct-local t g wd (I.direct b (slot_at t b).size (coming-slot S) l (omega arith))).inside in
          let v = C.row_in in
          let x = fits in
          let G : Stands F s w pos e (block t w header j at (s₁ ∷ ss) pos next) = subst (Stands F s w pos e) q H in
          leads-inside taking t w header d N A F s target len depth r at (s₁ ∷ ss) pos next e ok (omega arith) dr fits
          (omega arith) (omega arith) G rs
          ∙ finds j (omega arith) at (s₁ ∷ ss) pos next depth (omega arith) (omega arith) (omega arith) (omega arith) I
          (S, omega arith) G.bytes G.below

      -- a slot settles it, or ends before the block at b
      law : (ss : List ℕ) (pos next e : ℕ) → IsToCome t b a bs at ss next
          → Stands F s w pos e (in_slot t w header n r at ss pos next)
          → Settled d then Wanted s w target r e at
          ⊎ (Passed d s w target r z e at
          × IsToCome t b a bs (at + z) (in_slot t w header n r at ss pos next).rest
          (in_slot t w header n r at ss pos next).next)
      law ss pos next e S H = go (dec_lt b (at + z))
        where
          go : Dec (b < at + z)
              → Settled d then Wanted s w target r e at
              ⊎ (Passed d s w target r z e at
              × IsToCome t b a bs (at + z) (in_slot t w header n r at ss pos next).rest
              (in_slot t w header n r at ss pos next).next)
          go (yes u) = inl (taken e (way t g wd w header B C S.placed pos next) S u H)
          go (no u) =
              let x = slot-entry t w header n r at ss pos next in
              let y = H.entries.in_file in
              inr (
                λ rs. entry-passed d s w target r rs e at z (A.slot_sizes r (let v = C.row_in in omega arith)) ok
                    fits (omega arith) (omega arith),
                coming-later (omega arith)
                    (slot-cut t g wd w header pos next B C S.placed) S,
              )

  block-found : (n : ℕ) → ((j : ℕ) → j < n → FindsFrom j) → FindsFrom n
  block-found n finds base ss pos next zero few deep begins top B (S, u) H k = absurd (omega arith)
  block-found n finds base ss pos next (suc depth) few deep begins top B (S, u) H k =
      let o : Walked = all_slots t w header n base ss pos next in
      let I = block-stands t w header n base ss pos next F H k in
      let p : ℕ = pos + length o.bytes in
      walk-scans taking t w header d A.heap_bits F target len p n base depth o.entries I.own
      (O.is_opened p n base o.entries begins (block-entries t w header n base ss pos next) I.own)
      ∙ scanned t w header d N A F (drop p F) target n base (onward taking d F w target len depth) Wanted
      (IsToCome t b a bs)
      (λ r at ss pos next e C S H. law finds few top B depth (omega arith) (drop p F) C ss pos next e S H)
      (λ ss next S. absurd (let l = S.not_passed in omega arith))
      ss pos next (5 + w + offset_bytes t) S I.slots

  walk-found : (n : ℕ) → FindsFrom n
  walk-found = by-smaller FindsFrom block-found

-- the walk from any block in which the block at b is still to come finds it
pub found : PlacedBlocksFound
found t D w header d N A F ok target len taking O b a bs lo hi last n =
    walk-found t D.starts_direct D.rows_fill_slots w header d N A F ok target len taking O b a bs lo hi last n
