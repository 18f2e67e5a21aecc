-- The reader's scan over all slots of a written block, from a law for each slot: its entry settles the answer, or
-- it is passed, and what held before it holds behind it.
use Rattle.std.proofs.Common.{◌≡◌, ℕ, zero, suc, ◌+◌, ◌-◌, ◌*◌, ◌^◌, ◌<◌, ◌≤◌, true, ◌⊎◌, List, [], ◌∷◌, length}
use Rattle.std.proofs.Common.{Option, None, Result, Ok, refl, ap, ◌∙◌, subst, ⊎_elim, add-one}
use Rattle.fields.specs.LittleEndian.{le}
use Rattle.fields.specs.Widths.{legal}
use Rattle.table.specs.Table.{Table, row_bits, row_offset}
use Rattle.region_indirects.specs.Walk.{Walked, rows_of_slots, slots, smaller, all_slots, block}
use Rattle.region_indirects.proofs.Walking.{slot-entry}
use Rattle.region_write.proofs.Geometry.{SlotAt, Ahead, done, slot_of, all-ahead}
use Rattle.reading.specs.declared.rows.DoublingTable.{DoublingTable}
use Rattle.reading.specs.declared.children.HeapChild.{HeapChild}
use Rattle.fields.specs.declared.place.Place.{Place}
use Rattle.refusals.specs.declared.FormatError.{FormatError}
use Rattle.reading.specs.Blocks.{slot_rows, child_in_slots}
use Rattle.reading.specs.Walk.{Taking, walk_by}
use Rattle.heap_kept.specs.Walking.{HasBytes, GivesRows}
use Rattle.heap_kept.proofs.Entries.{entry-taken}
use Rattle.heap_kept.proofs.Standing.{Stands, in_slot, stands-first, stands-next, block-entry, block-below, onward}

-- the entry at e of a slot settles the answer, with whatever slots behind it
abbrev pub Settled : DoublingTable → (Result (Option HeapChild) FormatError → Result Place FormatError)
    → Result Place FormatError → List ℕ → ℕ → ℕ → ℕ → ℕ → ℕ → Type 0
Settled d then answer s w target r e at = (rs : List ℕ) → then (child_in_slots d s w target (r ∷ rs) e at) ≡ answer

-- or it is passed
abbrev pub Passed : DoublingTable → List ℕ → ℕ → ℕ → ℕ → ℕ → ℕ → ℕ → Type 0
Passed d s w target r size e at = (rs : List ℕ)
    → child_in_slots d s w target (r ∷ rs) e at ≡ child_in_slots d s w target rs (e + w) (at + size)

-- the entry of an indirect slot that holds the wanted offset leads to the block in it
pub leads-inside : (taking : Taking) (t : Table) (w header : ℕ) (d : DoublingTable) (N : ℕ) → GivesRows d t N
    → (F s : List ℕ) (target len depth r at : ℕ) (ss : List ℕ) (pos next e : ℕ) → legal w ≡ true → r < N
    → t.direct_bits < row_bits t r
    → at + 2 ^ row_bits t r < 2 ^ 64 → at ≤ target → target < at + 2 ^ row_bits t r
    → Stands F s w pos e (block t w header (r - t.width_bits) at ss pos next)
    → Settled d (onward taking d F w target len depth)
    (walk_by taking d F w target len depth
    (pos + length (all_slots t w header (r - t.width_bits) at ss pos next).bytes) (r - t.width_bits) at) s w
    target r e at
leads-inside taking t w header d N A F s target len depth r at ss pos next e ok l dr fits lo hi H rs =
    let j : ℕ = r - t.width_bits in
    let y : ℕ = pos + length (all_slots t w header j at ss pos next).bytes in
    let E : HasBytes s e (le w y) = subst (HasBytes s e) (block-entry t w header j at ss pos next) H.entries in
    rw (
      entry-taken d s w target r rs e at (2 ^ row_bits t r) (A.slot_sizes r l) ok fits lo hi y
          (block-below t w header j at ss pos next (2 ^ (8 * w) - 1) H.below) E,
      A.indirect_children r y at l dr,
    )

-- a header with the table's width counts the slots as the table does
same_slots : (t : Table) (d : DoublingTable) → d.table_width ≡ 2 ^ t.width_bits → (n r : ℕ)
    → slot_rows d n r ≡ rows_of_slots t n r
unfolding slot_rows rows_of_slots
same_slots t d e zero r = refl
same_slots t d e (suc n) r = rw (e, add-one r, same_slots t d e n (suc r))

module _ (t : Table) (w header : ℕ) (d : DoublingTable) (N : ℕ) (A : GivesRows d t N) (F s : List ℕ) (target : ℕ)
    (n base : ℕ)
    (then : Result (Option HeapChild) FormatError → Result Place FormatError) (answer : Result Place FormatError)
    (Holds : ℕ → List ℕ → ℕ → Type 0)
    (law : (r at : ℕ) (ss : List ℕ) (pos next e : ℕ) → SlotAt t n base r at → Holds at ss next
    → Stands F s w pos e (in_slot t w header n r at ss pos next)
    → Settled d then answer s w target r e at
    ⊎ (Passed d s w target r (2 ^ row_bits t r) e at
    × Holds (at + 2 ^ row_bits t r) (in_slot t w header n r at ss pos next).rest
    (in_slot t w header n r at ss pos next).next))
    (ends : (ss : List ℕ) (next : ℕ) → Holds (base + row_offset t n) ss next → then (Ok None) ≡ answer) where
  -- the slots from a heap offset on
  from_scanned : (rs : List ℕ) (at : ℕ) → Ahead t n base at rs → (ss : List ℕ) (pos next e : ℕ) → Holds at ss next
      → Stands F s w pos e (slots t w header (smaller t w header n) rs at ss pos next)
      → then (child_in_slots d s w target rs e at) ≡ answer
  unfolding child_in_slots slots
  from_scanned [] at (done q) ss pos next e I H = ends ss next (subst (λ (y : ℕ). Holds y ss next) q I)
  from_scanned (r ∷ rs) at (slot_of C more) ss pos next e I H =
      let z : ℕ = 2 ^ row_bits t r in
      let o : Walked = in_slot t w header n r at ss pos next in
      let after : Walked = slots t w header (smaller t w header n) rs (at + z) o.rest (pos + length o.bytes) o.next in
      ⊎_elim (λ (u : Settled d then answer s w target r e at). u rs)
      (λ (u : Passed d s w target r z e at × Holds (at + z) o.rest o.next).
      ap then (u.0 rs) ∙ from_scanned rs (at + z) more o.rest (pos + length o.bytes) o.next (e + w) u.1
      (stands-next o after (slot-entry t w header n r at ss pos next) H))
      (law r at ss pos next e C I (stands-first o after H))

  -- all slots of the block
  pub scanned : (ss : List ℕ) (pos next e : ℕ) → Holds base ss next
      → Stands F s w pos e (all_slots t w header n base ss pos next)
      → then (child_in_slots d s w target (slot_rows d n 0) e base) ≡ answer
  scanned ss pos next e I H =
      rw (same_slots t d A.table_width n 0)
      (from_scanned (rows_of_slots t n 0) base (all-ahead t n base) ss pos next e I H)
