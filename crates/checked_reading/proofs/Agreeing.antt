-- Two files of equal length with the same bytes in a block: its tests and the child in it are the same.
use Rattle.std.proofs.Common.{◌≡◌, refl, sym, ap, ◌∙◌, ℕ, zero, suc, ◌+◌, ◌-◌, ◌*◌, ◌≤◌, List, [], ◌∷◌, replicate}
use Rattle.std.proofs.Common.{length, take, drop, arith, length-drop, length-append, take-add, drop_at}
use Rattle.std.proofs.Common.{length-take-le, take-take}
use Rattle.std.specs.Prelude.{Option, Some, Result, Ok, if◌then◌else◌}
use Rattle.std.proofs.lemmas.List.{length-replicate}
use Rattle.numbers.specs.Numbers.{saturated}
use Rattle.refusals.specs.Steps.{◌>>=◌}
use Rattle.refusals.specs.declared.FormatError.{FormatError}
use Rattle.fields.specs.LittleEndian.{le_at}
use Rattle.fields.specs.Fields.{len_ensured, offset_at}
use Rattle.reading.specs.declared.rows.DoublingTable.{DoublingTable}
use Rattle.reading.specs.declared.children.HeapChild.{HeapChild}
use Rattle.reading.specs.Rows.{slot_size}
use Rattle.reading.specs.Blocks.{holds_offset, child_of, slot_rows, child_in_slots, entries_place, child_in, child_at}
use Rattle.checked_reading.specs.declared.Checked.{Checked}
use Rattle.checked_reading.specs.Blocks.{indirect_size, indirect_checked, direct_checked}
use Rattle.checked_reading.specs.Path.{block_of, bytes_of}

-- k bytes at p are among the first l
among : (x : List ℕ) (l p k : ℕ) → l ≤ length x → p + k ≤ l → take k (drop p (take l x)) ≡ take k (drop p x)
among x l p k room inside =
    let e : l ≡ p + (l - p) = omega arith in
    ap (λ (m : ℕ). take k (drop p (take m x))) e
    ∙ ap (λ (y : List ℕ). take k (drop p y)) (take-add p (l - p) x)
    ∙ ap (take k) (drop_at (take p x) (take (l - p) (drop p x)) p (length-take-le p x (omega arith)))
    ∙ take-take k (l - p) (drop p x) (omega arith)

rows-length : (table : DoublingTable) (n row : ℕ) → length (slot_rows table n row) ≡ n * table.table_width
unfolding slot_rows
rows-length table zero row = omega arith
rows-length table (suc n) row =
    length-append (replicate table.table_width row) (slot_rows table n (row + 1))
    ∙ omega (arith, rows-length table n (row + 1), length-replicate {A = ℕ} table.table_width row)

-- two lists of equal length with the same first l bytes
module _ (x y : List ℕ) (l : ℕ) (room : l ≤ length x) (long : length x ≡ length y) (same : take l x ≡ take l y) where
  pub part-agrees : (p k : ℕ) → p + k ≤ l → take k (drop p x) ≡ take k (drop p y)
  part-agrees p k h =
      sym (among x l p k room h)
      ∙ ap (λ (z : List ℕ). take k (drop p z)) same
      ∙ among y l p k (omega (arith, room, long)) h

  module _ (w t : ℕ) (table : DoublingTable) where
    offset-agrees : (p : ℕ) → p + w ≤ l → offset_at x p w ≡ offset_at y p w
    unfolding le_at
    offset-agrees p h = rw (long, part-agrees p w h)

    slots-agree : (rows : List ℕ) (p start : ℕ) → p + length rows * w ≤ l
        → child_in_slots table x w t rows p start ≡ child_in_slots table y w t rows p start
    unfolding child_in_slots
    slots-agree [] p start h = refl
    slots-agree (row ∷ rows) p start h =
        rw (offset-agrees p (omega arith))
        (ap (λ (r : Result (Option HeapChild) FormatError). offset_at y p w >>= (λ a.
        if holds_offset a w start (saturated (start + slot_size table row)) t
        then Ok (Some (child_of table row a start)) else r))
        (slots-agree rows (p + w) (saturated (start + slot_size table row)) (omega arith)))

    child-agrees : (n start : ℕ) → 4 ≤ l → entries_place table w + n * table.table_width * w ≤ l
        → child_in table x n start t w ≡ child_in table y n start t w
    child-agrees n start f h =
        rw (
          long,
          part-agrees 0 4 f,
          slots-agree (slot_rows table n 0) (entries_place table w) start (rw (rows-length table n 0) h),
        )

-- ---- the blocks of two files

module _ (heap : Checked) (table : DoublingTable) (w : ℕ) (s u : List ℕ) (long : length s ≡ length u) where
  pub indirect-agrees : (a n start : ℕ)
      → (let b = block_of a start (indirect_size table w n) in bytes_of b s ≡ bytes_of b u)
      → indirect_checked heap table s w a n start ≡ indirect_checked heap table u w a n start
  unfolding indirect_checked
  indirect-agrees a n start same = rw (long, same)

  pub direct-agrees : (a size start : ℕ)
      → (let b = block_of a start size in bytes_of b s ≡ bytes_of b u)
      → direct_checked heap table s w a size start ≡ direct_checked heap table u w a size start
  unfolding direct_checked
  direct-agrees a size start same = rw (long, same)

  pub tails-alike : (a : ℕ) → length (drop a s) ≡ length (drop a u)
  tails-alike a = length-drop a s ∙ ap (λ (m : ℕ). m - a) long ∙ sym (length-drop a u)

  pub child-alike : (t a n start : ℕ) → a + indirect_size table w n ≤ length s
      → (let b = block_of a start (indirect_size table w n) in bytes_of b s ≡ bytes_of b u)
      → child_at table s a n start t w ≡ child_at table u a n start t w
  child-alike t a n start room same =
      rw long
      (ap (λ (r : Result (Option HeapChild) FormatError). len_ensured u a 4 >>= (λ _. r))
      (child-agrees (drop a s) (drop a u) (indirect_size table w n) (rw (length-drop a s) (omega (arith, room)))
      (tails-alike a) same w t table n start (omega arith) (omega arith)))
