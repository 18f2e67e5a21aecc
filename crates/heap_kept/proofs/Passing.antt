-- The blocks that are written pass the tests of the checked reader, at any table whose heap offsets have at most eight
-- bytes.
use Rattle.std.proofs.Common.{◌≡◌, ℕ, ◌+◌, ◌-◌, ◌*◌, ◌/◌, ◌^◌, ◌≤◌, ◌<◌, min, true, List, [], ◌∷◌, ◌++◌, length}
use Rattle.std.proofs.Common.{take, drop, replicate, slice_index, bytes_eq, Ok, refl, sym, ap, ◌∙◌, arith}
use Rattle.std.proofs.Common.{length-append, append_assoc, append-nil, take_at, drop_at, mod-eq_of_lt}
use Rattle.std.proofs.lemmas.List.{get_or_at}
use Rattle.std.proofs.lemmas.Grind.{common_steps}
use Rattle.std.proofs.lemmas.Slice.Eq.{bytes_eq-Decides}
use Rattle.fields.specs.LittleEndian.{le, value, le_at, put}
use Rattle.fields.specs.Signatures.{direct_signature, indirect_signature}
use Rattle.fields.specs.Widths.{legal}
use Rattle.fields.proofs.LittleEndian.{length-le, value-le}
use Rattle.checksum.specs.Lookup3.{hashlittle}
use Rattle.checksum.specs.Zeroed.{zeroed}
use Rattle.table.specs.Table.{Table}
use Rattle.table.specs.Sizes.{offset_bytes}
use Rattle.region_blocks.specs.Blocks.{block_head, indirect_block, direct_body, direct_block}
use Rattle.region_blocks.proofs.Lengths.{indirect-head-length, direct-head-length}
use Rattle.reading.specs.declared.rows.DoublingTable.{DoublingTable}
use Rattle.reading.specs.Blocks.{block_offset_size, entries_place}
use Rattle.checked_reading.specs.declared.Checked.{Checked}
use Rattle.checked_reading.specs.Blocks.{has_checksum, head_checked, indirect_size, indirect_in}
use Rattle.checked_reading.specs.Blocks.{indirect_checked, direct_header_size, direct_in, direct_checked}
use Rattle.fractal_heap.proofs.Spelling.{sum_fits}
use Rattle.heap_kept.specs.Walking.{HasBytes}

-- a number that stands behind other bytes
number-behind : (x y z : List ℕ) (p n : ℕ) → length x ≡ p → length y ≡ n → le_at (x ++ (y ++ z)) p n ≡ value y
unfolding le_at
number-behind x y z p n e f = rw (drop_at x (y ++ z) p e, take_at y z n f) refl

value-of : (w x : ℕ) → x < 2 ^ (8 * w) → value (le w x) ≡ x
value-of w x h = value-le w x ∙ mod-eq_of_lt h

-- what the widths and the numbers of a block have to be
pub record Fits (heap : Checked) (d : DoublingTable) (t : Table) (w offset : ℕ) : Type 0 where
  pub width : legal w ≡ true
  pub heap_bits : d.max_heap_size ≡ t.heap_bits
  pub few : offset_bytes t ≤ 8
  pub header_fits : heap.heap_header_address < 2 ^ (8 * w)
  pub offset_fits : offset < 2 ^ (8 * offset_bytes t)

module _ {heap : Checked} {d : DoublingTable} {t : Table} {w offset : ℕ} (F : Fits heap d t w offset) where
  abbrev header : ℕ
  header = heap.heap_header_address

  same-bytes : block_offset_size d ≡ offset_bytes t
  same-bytes = ap (λ (n : ℕ). (n + 7) / 8) F.heap_bits

  entries-at : entries_place d w ≡ 5 + w + offset_bytes t
  entries-at = ap (λ (n : ℕ). 5 + w + (n + 7) / 8) F.heap_bits

  -- how a block begins that begins so
  module _ (sg : List ℕ) (four : length sg ≡ 4) (rest : List ℕ) where
    abbrev k : ℕ
    k = offset_bytes t

    abbrev H : List ℕ
    H = le w header

    abbrev O : List ℕ
    O = le k offset

    abbrev b : List ℕ
    b = (sg ++ ((0 ∷ []) ++ (H ++ O))) ++ rest

    flat : b ≡ sg ++ (0 ∷ (H ++ (O ++ rest)))
    flat = append_assoc sg ((0 ∷ []) ++ (H ++ O)) rest ∙ ap (λ (l : List ℕ). sg ++ (0 ∷ l)) (append_assoc H O rest)

    split : b ≡ (sg ++ (0 ∷ [])) ++ (H ++ (O ++ rest))
    split = flat ∙ sym (append_assoc sg (0 ∷ []) (H ++ (O ++ rest)))

    five : length (sg ++ (0 ∷ [])) ≡ 5
    five = length-append sg (0 ∷ []) ∙ omega (arith, four)

    both : length ((sg ++ (0 ∷ [])) ++ H) ≡ 5 + w
    both = length-append (sg ++ (0 ∷ [])) H ∙ omega (arith, five, length-le w header)

    signature : bytes_eq (take 4 b) sg ≡ true
    signature =
        let first : take 4 b ≡ sg = ap (take 4) flat ∙ take_at sg (0 ∷ (H ++ (O ++ rest))) 4 four in
        rw first ((bytes_eq-Decides sg sg).1 refl)

    version : slice_index b 4 ≡ 0
    version = ap (λ (l : List ℕ). slice_index l 4) flat ∙ get_or_at sg 0 (H ++ (O ++ rest)) 0 4 four

    address : le_at b 5 w ≡ header
    address =
        ap (λ (l : List ℕ). le_at l 5 w) split
        ∙ number-behind (sg ++ (0 ∷ [])) H (O ++ rest) 5 w five (length-le w header)
        ∙ value-of w header F.header_fits

    stored : le_at b (5 + w) (min (block_offset_size d) 8) ≡ offset
    stored =
        let all : min (block_offset_size d) 8 ≡ k = omega (arith, same-bytes, F.few) in
        ap (le_at b (5 + w)) all
        ∙ ap (λ (l : List ℕ). le_at l (5 + w) k) (split ∙ sym (append_assoc (sg ++ (0 ∷ [])) H (O ++ rest)))
        ∙ number-behind ((sg ++ (0 ∷ [])) ++ H) O rest (5 + w) k both (length-le k offset)
        ∙ value-of k offset F.offset_fits

    head-passes : head_checked heap d w sg (block_head t w sg header offset ++ rest) offset ≡ Ok tt
    unfolding head_checked block_head
    head-passes =
        let a = signature in let b = version in let c = address in let e = stored in
        grind (arith, common_steps)

  -- ---- an indirect block

  module _ (entries : List ℕ) where
    abbrev summed : List ℕ
    summed = block_head t w indirect_signature header offset ++ entries

    abbrev sum : List ℕ
    sum = le 4 (hashlittle summed)

    summed-length : length summed ≡ 5 + w + offset_bytes t + length entries
    summed-length =
        omega (
          arith,
          length-append (block_head t w indirect_signature header offset) entries,
          indirect-head-length t w header offset,
        )

    block-length : length (summed ++ sum) ≡ length summed + 4
    block-length = length-append summed sum ∙ omega (arith, length-le 4 (hashlittle summed))

    indirect-in-passes : indirect_in heap d w (summed ++ sum) offset ≡ Ok tt
    unfolding indirect_in
    indirect-in-passes =
        let at : length (summed ++ sum) - 4 ≡ length summed = omega (arith, block-length) in
        let head = ap (λ (l : List ℕ). head_checked heap d w indirect_signature l offset)
        (append_assoc (block_head t w indirect_signature header offset) entries sum)
        ∙ head-passes indirect_signature refl (entries ++ sum) in
        let stored : le_at (summed ++ sum) (length summed) 4 ≡ hashlittle summed =
        ap (λ (l : List ℕ). le_at (summed ++ l) (length summed) 4) (sym (append-nil sum))
        ∙ number-behind summed sum [] (length summed) 4 refl (length-le 4 (hashlittle summed))
        ∙ value-of 4 (hashlittle summed) (sum_fits summed (omega (arith, summed-length))) in
        rw (head, at, stored, take_at summed sum (length summed) refl) (grind (arith, common_steps))

    -- it passes where it stands in a file, as the block of so many rows
    pub indirect-passes : (file : List ℕ) (a rows : ℕ) → length entries ≡ rows * d.table_width * w
        → HasBytes file a (indirect_block t w header offset entries)
        → indirect_checked heap d file w a rows offset ≡ Ok tt
    unfolding indirect_checked
    indirect-passes file a rows e S =
        let size : indirect_size d w rows ≡ length (summed ++ sum)
        = omega (arith, e, entries-at, summed-length, block-length) in
        let legal_width = F.width in
        let there = S.in_file in
        let passes = indirect-in-passes in
        rw (size, S.bytes_there) (grind (arith, common_steps))

  -- ---- a direct block

  module _ (sums : has_checksum heap.flags ≡ true) (size : ℕ) (objects : List ℕ) where
    abbrev head : List ℕ
    head = block_head t w direct_signature header offset

    abbrev body : List ℕ
    body = direct_body t w size objects

    abbrev own : ℕ
    own = hashlittle (head ++ (replicate 4 0 ++ body))

    head-length : length head ≡ entries_place d w
    head-length = direct-head-length t w header offset ∙ omega (arith, entries-at)

    zeroed-is : zeroed (head ++ (le 4 own ++ body)) (entries_place d w) ≡ head ++ (replicate 4 0 ++ body)
    unfolding put
    zeroed-is =
        let p = head-length in
        let q : length (head ++ le 4 own) ≡ entries_place d w + 4
        = length-append head (le 4 own) ∙ omega (arith, p, length-le 4 own) in
        let before : take (entries_place d w) (head ++ (le 4 own ++ body)) ≡ head
        = take_at head (le 4 own ++ body) (entries_place d w) p in
        let behind : drop (entries_place d w + 4) (head ++ (le 4 own ++ body)) ≡ body
        = ap (drop (entries_place d w + 4)) (sym (append_assoc head (le 4 own) body))
        ∙ drop_at (head ++ le 4 own) body (entries_place d w + 4) q in
        rw (before, behind) (append_assoc head (replicate 4 0) body)

    direct-in-passes : direct_in heap d w (head ++ (le 4 own ++ body)) offset ≡ Ok tt
    unfolding direct_in
    direct-in-passes =
        let some : 0 < length (head ++ (replicate 4 0 ++ body))
        = omega (arith, length-append head (replicate 4 0 ++ body), head-length, entries-at) in
        let stored : le_at (head ++ (le 4 own ++ body)) (entries_place d w) 4 ≡ own
        = number-behind head (le 4 own) body (entries_place d w) 4 head-length (length-le 4 own)
        ∙ value-of 4 own (sum_fits (head ++ (replicate 4 0 ++ body)) some) in
        rw (head-passes direct_signature refl (le 4 own ++ body), sums, stored, zeroed-is)
        (grind (arith, common_steps))

    -- it passes where it stands in a file
    pub direct-passes : (file : List ℕ) (a : ℕ) → length (direct_block t w header offset size objects) ≡ size
        → direct_header_size heap d w ≤ size → HasBytes file a (direct_block t w header offset size objects)
        → direct_checked heap d file w a size offset ≡ Ok tt
    unfolding direct_checked direct_block
    direct-passes file a e large S =
        let legal_width = F.width in
        let there : a + size ≤ length file = omega (arith, e, S.in_file) in
        let whole : take size (drop a file) ≡ head ++ (le 4 own ++ body)
        = ap (λ (n : ℕ). take n (drop a file)) (sym e) ∙ S.bytes_there in
        let passes = direct-in-passes in
        rw whole (grind (arith, common_steps))
