-- Laws of the search over the slots of a row and over the rows of a block, one turn at a time; and of a row that is
-- passed at once.
use Rattle.std.proofs.Common.{◌≡◌, ◌∙◌, ℕ, zero, suc, ◌+◌, ◌-◌, ◌*◌, ◌^◌, ◌≤◌, ◌<◌, List, ◌++◌, replicate, true, false}
use Rattle.std.proofs.Common.{length, take, drop, ap₂, arith}
use Rattle.std.specs.Prelude.{Some, None, Ok, Err}
use Rattle.std.proofs.lemmas.Grind.{common_steps}
use Rattle.fields.specs.Widths.{legal}
use Rattle.fields.specs.LittleEndian.{le_at}
use Rattle.numbers.specs.Numbers.{saturated}
use Rattle.fields.specs.Fields.{offset_at}
use Rattle.fields.proofs.Fields.{offset_read}
use Rattle.refusals.specs.declared.FormatError.{FormatError}
use Rattle.reading.specs.declared.rows.DoublingTable.{DoublingTable}
use Rattle.reading.specs.Rows.{slot_size}
use Rattle.reading.specs.Blocks.{holds_offset, child_of, slot_rows, child_in_slots}

-- n slots of a row, and those behind them
pub slots_none : (table : DoublingTable) (s : List ℕ) (w t row n : ℕ) (rows : List ℕ) (p start : ℕ) → n ≡ 0
    → child_in_slots table s w t (replicate n row ++ rows) p start ≡ child_in_slots table s w t rows p start
slots_none table s w t row n rows p start e = rw e

-- one of them: it is refused, taken or passed
pub slot_refused : (table : DoublingTable) (s : List ℕ) (w t row n : ℕ) (rows : List ℕ) (p start : ℕ) (e : FormatError)
    → 0 < n → offset_at s p w ≡ Err e → child_in_slots table s w t (replicate n row ++ rows) p start ≡ Err e
unfolding child_in_slots
slot_refused table s w t row zero rows p start e h f = absurd (omega arith)
slot_refused table s w t row (suc n) rows p start e h f = rw f

pub slot_taken : (table : DoublingTable) (s : List ℕ) (w t row n : ℕ) (rows : List ℕ) (p start a : ℕ) → 0 < n
    → offset_at s p w ≡ Ok a → holds_offset a w start (saturated (start + slot_size table row)) t ≡ true
    → child_in_slots table s w t (replicate n row ++ rows) p start ≡ Ok (Some (child_of table row a start))
unfolding child_in_slots
slot_taken table s w t row zero rows p start a h f g = absurd (omega arith)
slot_taken table s w t row (suc n) rows p start a h f g = rw (f, g)

pub slot_passed : (table : DoublingTable) (s : List ℕ) (w t row n k : ℕ) (rows : List ℕ) (p start a : ℕ) → n ≡ suc k
    → offset_at s p w ≡ Ok a → holds_offset a w start (saturated (start + slot_size table row)) t ≡ false
    → child_in_slots table s w t (replicate n row ++ rows) p start
    ≡ child_in_slots table s w t (replicate k row ++ rows) (p + w) (saturated (start + slot_size table row))
unfolding child_in_slots
slot_passed table s w t row n k rows p start a e f g = rw (e, f, g)

pub rows_none : (table : DoublingTable) (s : List ℕ) (w t n row p start : ℕ) → n ≡ 0
    → child_in_slots table s w t (slot_rows table n row) p start ≡ Ok None
unfolding child_in_slots slot_rows
rows_none table s w t n row p start e = rw e

-- a row begins with its slots
pub row_begun : (table : DoublingTable) (s : List ℕ) (w t n k m row p start : ℕ) → n ≡ suc k → m ≡ table.table_width
    → child_in_slots table s w t (slot_rows table n row) p start
    ≡ child_in_slots table s w t (replicate m row ++ slot_rows table k (row + 1)) p start
unfolding slot_rows
row_begun table s w t n k m row p start e f = rw (e, f)

-- a slot that ends at or before the target does not hold it
pub not_held : (a w start end t : ℕ) → end ≤ t → holds_offset a w start end t ≡ false
not_held a w start end t h = grind (arith, common_steps)

-- slots whose entries are there, and which end at or before the target, are passed
slots_passed : (table : DoublingTable) (s : List ℕ) (w t row n : ℕ) (rows : List ℕ) (p start : ℕ) → legal w ≡ true
    → start < 2 ^ 64 → p + n * w ≤ length s → saturated (start + slot_size table row * n) ≤ t
    → child_in_slots table s w t (replicate n row ++ rows) p start
    ≡ child_in_slots table s w t rows (p + n * w) (saturated (start + slot_size table row * n))
unfolding child_in_slots
slots_passed table s w t row zero rows p start l b room end =
    ap₂ (child_in_slots table s w t rows) (omega arith) (omega arith)
slots_passed table s w t row (suc n) rows p start l b room end =
    let size = slot_size table row in
    rw (offset_read s p w l (omega arith), not_held (le_at s p w) w start (saturated (start + size)) t (omega arith))
    (slots_passed table s w t row n rows (p + w) (saturated (start + size)) l (omega arith) (omega arith) (omega arith)
    ∙ ap₂ (child_in_slots table s w t rows) (omega arith) (omega arith))

-- and so is a row
pub row_passed : (table : DoublingTable) (s : List ℕ) (w t n k row p q start end : ℕ) → n ≡ suc k → legal w ≡ true
    → start < 2 ^ 64 → q ≡ p + table.table_width * w → q ≤ length s
    → end ≡ saturated (start + slot_size table row * table.table_width) → end ≤ t
    → child_in_slots table s w t (slot_rows table n row) p start
    ≡ child_in_slots table s w t (slot_rows table k (row + 1)) q end
unfolding slot_rows
row_passed table s w t n k row p q start end e l b f room g past =
    let next = slot_rows table k (row + 1) in
    rw (e, f, g) (slots_passed table s w t row table.table_width next p start l b (omega arith) (omega arith))

-- the file from a place on
pub part_all : (s : List ℕ) (a : ℕ) → take (length s - a) (drop a s) ≡ drop a s
part_all s a = grind (arith, common_steps)

-- what a scan over the rows of a block comes to, step by step
pub ruleset scanning = (rows_none, row_begun, slots_none, slot_taken, slot_refused, slot_passed, row_passed)
