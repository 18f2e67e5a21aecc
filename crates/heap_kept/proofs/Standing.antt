-- Written indirect blocks in a file: their slots one by one, their signature, and where their entries are.
use Rattle.std.proofs.Common.{◌≡◌, ℕ, suc, ◌+◌, ◌-◌, ◌*◌, ◌/◌, ◌^◌, ◌<◌, ◌≤◌, List, [], ◌∷◌, ◌++◌, length, take, drop}
use Rattle.std.proofs.Common.{true}
use Rattle.std.proofs.Common.{Option, Result, Ok, refl, sym, ap, ◌∙◌, subst, arith, add-zero, length-append}
use Rattle.std.proofs.lemmas.Grind.{common_steps}
use Rattle.std.specs.Prelude.{bytes_eq}
use Rattle.fields.specs.LittleEndian.{le}
use Rattle.checksum.specs.Lookup3.{hashlittle}
use Rattle.table.specs.Table.{Table}
use Rattle.table.specs.Sizes.{offset_bytes}
use Rattle.fields.specs.Signatures.{indirect_signature}
use Rattle.region_blocks.specs.Blocks.{block_head, indirect_block}
use Rattle.region_blocks.proofs.Lengths.{indirect-head-length, indirect-length}
use Rattle.region_indirects.specs.Walk.{Walked, both, slot, smaller, all_slots, block}
use Rattle.reading.specs.declared.rows.DoublingTable.{DoublingTable}
use Rattle.reading.specs.declared.children.HeapChild.{HeapChild}
use Rattle.fields.specs.declared.place.Place.{Place}
use Rattle.refusals.specs.Steps.{◌>>=◌}
use Rattle.refusals.specs.declared.FormatError.{FormatError}
use Rattle.refusals.specs.declared.FormatError.TheVariants.{UnexpectedEof}
use Rattle.numbers.specs.Numbers.{saturated}
use Rattle.reading.specs.Blocks.{slot_rows, child_in_slots}
use Rattle.reading.specs.Walk.{Taking, by_child, walk_by}
use Rattle.heap_kept.specs.Walking.{HasBytes}
use Rattle.heap_kept.proofs.Holding.{has_left, has_right, has-drop}

-- what is written of the slot at the heap offset `at`, in row r of a block of n rows
abbrev pub in_slot : Table → ℕ → ℕ → ℕ → ℕ → ℕ → List ℕ → ℕ → ℕ → Walked
in_slot t w header n r at ss pos next = slot t w header (smaller t w header n) r at ss pos next

-- the outcome o of a walk is in the file F: its blocks from pos on, its entries at e of s; addresses have w bytes
pub record Stands (F s : List ℕ) (w pos e : ℕ) (o : Walked) : Type 0 where
  pub bytes : HasBytes F pos o.bytes
  pub below : pos + length o.bytes ≤ 2 ^ (8 * w) - 1
  pub entries : HasBytes s e o.entries

module _ {F s : List ℕ} {w pos e : ℕ} (c o : Walked) where
  pub stands-first : Stands F s w pos e (both c o) → Stands F s w pos e c
  stands-first S =
      let n = length-append c.bytes o.bytes in
      let l = S.below in
      record {
        bytes = has_left F pos c.bytes o.bytes S.bytes;
        below = omega arith;
        entries = has_left s e c.entries o.entries S.entries;
      }

  pub stands-next : length c.entries ≡ w → Stands F s w pos e (both c o) → Stands F s w (pos + length c.bytes) (e + w) o
  stands-next k S =
      let n = length-append c.bytes o.bytes in
      let l = S.below in
      record {
        bytes = has_right F pos c.bytes o.bytes S.bytes;
        below = omega arith;
        entries = subst (λ (y : ℕ). HasBytes s (e + y) o.entries) k (has_right s e c.entries o.entries S.entries);
      }

module _ (t : Table) (w header n at : ℕ) (ss : List ℕ) (pos next : ℕ) where
  pub block-bytes : (block t w header n at ss pos next).bytes
      ≡ (all_slots t w header n at ss pos next).bytes ++ indirect_block t w header at
      (all_slots t w header n at ss pos next).entries
  unfolding block
  block-bytes = refl

  pub block-entry : (block t w header n at ss pos next).entries
      ≡ le w (pos + length (all_slots t w header n at ss pos next).bytes)
  unfolding block
  block-entry = refl

  -- the block itself stands below what it ends below
  pub block-below : (end : ℕ) → pos + length (block t w header n at ss pos next).bytes ≤ end
      → pos + length (all_slots t w header n at ss pos next).bytes < end
  block-below end l =
      let o = all_slots t w header n at ss pos next in
      let a = ap length block-bytes ∙ length-append o.bytes (indirect_block t w header at o.entries) in
      let b = indirect-length t w header at o.entries in
      omega arith

-- an indirect block in the file: its signature, and where its entries are
module _ (t : Table) (w header : ℕ) (F : List ℕ) (p at : ℕ) (es : List ℕ)
    (H : HasBytes F p (indirect_block t w header at es)) where
  head-has : HasBytes F p (block_head t w indirect_signature header at ++ es)
  head-has = has_left F p (block_head t w indirect_signature header at ++ es)
      (le 4 (hashlittle (block_head t w indirect_signature header at ++ es))) H

  entries-has : HasBytes (drop p F) (5 + w + offset_bytes t) es
  entries-has =
      let behind = has_right F p (block_head t w indirect_signature header at) es head-has in
      has-drop F p (5 + w + offset_bytes t) es (rw (indirect-head-length t w header at) at behind)

  sign-has : HasBytes (drop p F) 0 indirect_signature
  unfolding block_head
  sign-has =
      has-drop F p 0 indirect_signature (subst (λ (y : ℕ). HasBytes F y indirect_signature) (sym (add-zero p))
      (has_left F p indirect_signature ((0 ∷ []) ++ (le w header ++ le (offset_bytes t) at))
      (has_left F p (block_head t w indirect_signature header at) es head-has)))

-- a block in the file: it stands behind those in its slots, and all of them stand there
pub record BlockStands (t : Table) (w header at : ℕ) (F : List ℕ) (pos : ℕ) (o : Walked) : Type 0 where
  pub own : HasBytes F (pos + length o.bytes) (indirect_block t w header at o.entries)
  pub slots : Stands F (drop (pos + length o.bytes) F) w pos (5 + w + offset_bytes t) o

pub block-stands : (t : Table) (w header n at : ℕ) (ss : List ℕ) (pos next : ℕ) (F : List ℕ)
    → HasBytes F pos (block t w header n at ss pos next).bytes
    → pos + length (block t w header n at ss pos next).bytes ≤ 2 ^ (8 * w) - 1
    → BlockStands t w header at F pos (all_slots t w header n at ss pos next)
block-stands t w header n at ss pos next F H k =
    let o : Walked = all_slots t w header n at ss pos next in
    let G = subst (HasBytes F pos) (block-bytes t w header n at ss pos next) H in
    let I = has_right F pos o.bytes (indirect_block t w header at o.entries) G in
    let v = block-below t w header n at ss pos next (2 ^ (8 * w) - 1) k in
    record {
      own = I;
      slots = record {
        bytes = has_left F pos o.bytes (indirect_block t w header at o.entries) G;
        below = omega arith;
        entries = entries-has t w header F (pos + length o.bytes) at o.entries I;
      };
    }

-- what the walk makes of a child, with so many blocks to go
abbrev pub onward : Taking → DoublingTable → List ℕ → ℕ → ℕ → ℕ → ℕ → Result (Option HeapChild) FormatError
    → Result Place FormatError
onward taking d F w target len depth c =
    c >>= (λ child. by_child child taking.object (λ p m o. walk_by taking d F w target len depth p m o)
    (UnexpectedEof (saturated (target + len)) (length F)))

-- at a block in the file that is opened the walk scans its entries
pub walk-scans : (taking : Taking) (t : Table) (w header : ℕ) (d : DoublingTable) → d.max_heap_size ≡ t.heap_bits
    → (F : List ℕ) (target len p n at depth : ℕ) (es : List ℕ) → HasBytes F p (indirect_block t w header at es)
    → taking.opened p n at ≡ Ok tt
    → walk_by taking d F w target len (suc depth) p n at
    ≡ onward taking d F w target len depth
    (child_in_slots d (drop p F) w target (slot_rows d n 0) (5 + w + offset_bytes t) at)
unfolding walk_by
walk-scans taking t w header d bits F target len p n at depth es H opened =
    let r = H.in_file in
    let l = indirect-length t w header at es in
    let S = sign-has t w header F p at es H in
    let k = S.in_file in
    let signed : bytes_eq (take 4 (drop p F)) indirect_signature ≡ true = rw S.bytes_there refl in
    let behind = ap (λ (k : ℕ). 5 + w + (k + 7) / 8) bits in
    grind (arith, common_steps)
