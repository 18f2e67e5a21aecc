-- What C finds in the slot: the place of an object that was found, the pair of an ID that was written.
use Rattle.std.proofs.Common.{◌≡◌, ℕ, ◌+◌, ◌^◌, ◌<◌, ◌≤◌, false, List, ◌++◌, length, take, drop, nat_lt, Result, Ok}
use Rattle.std.proofs.Common.{refl, ap, ◌∙◌, arith, mod-eq_of_lt, length-take, length-drop, take_at}
use Rattle.std.proofs.Common.{drop_at}
use Rattle.std.proofs.lemmas.Bool.Decides.{nat_tests}
use Rattle.fields.specs.LittleEndian.{le, value, le_at}
use Rattle.fields.proofs.LittleEndian.{length-le, value-le}
use Rattle.fields.specs.Slot.{slot_size, slot_number, slot_bytes}
use Rattle.refusals.specs.Refusals.{answer, report_of}
use Rattle.fields.specs.Places.{place_report}
use Rattle.table.specs.Table.{fixed}
use Rattle.ids.specs.Decoded.{decoded_id, id_report}
use Rattle.ids.proofs.ReadBack.{decodes}
use Rattle.ids.specs.Written.{HasTable, IsManaged}
use Rattle.fractal_heap.specs.declared.header.FractalHeapHeader.{FractalHeapHeader}
use Rattle.fractal_heap.specs.Header.{header_at}
use Rattle.fields.specs.declared.place.Place.{Place}
use Rattle.refusals.specs.declared.FormatError.{FormatError}
use Rattle.fractal_heap.specs.Read.{managed_unchecked, managed_checked, id_by, unchecked_by, checked_by}
use Rattle.heap_kept.specs.Kept.{ForKeptUnchecked, ForKeptChecked, IsPlaceOf}
use Rattle.heap_kept.proofs.Keeping.{kept, kept_checked, size-is}
use Rattle.fractal_heap_c.specs.InSlot.{NamesPlace, NamesPair}
use Rattle.fractal_heap_c.specs.WrittenIds.{IsWrittenId}

-- the two values, read back from the slot
module _ (slot : List ℕ) (a n : ℕ) where
  abbrev both : List ℕ
  both = le 8 a ++ le 8 n ++ drop 16 slot

  first : a < 2 ^ 64 → le_at both 0 8 ≡ a
  unfolding le_at le
  first l = ap value (take_at (le 8 a) (le 8 n ++ drop 16 slot) 8 (length-le 8 a)) ∙ value-le 8 a ∙ mod-eq_of_lt l

  second : n < 2 ^ 64 → le_at both 8 8 ≡ n
  unfolding le_at le
  second l =
      ap (λ (t : List ℕ). value (take 8 t)) (drop_at (le 8 a) (le 8 n ++ drop 16 slot) 8 (length-le 8 a))
      ∙ ap value (take_at (le 8 n) (drop 16 slot) 8 (length-le 8 n))
      ∙ value-le 8 n
      ∙ mod-eq_of_lt l

-- two values that are answered with 0, in a slot that has room for them
named : (slot : List ℕ) (a n : ℕ) → slot_size ≤ length slot → a < 2 ^ 64 → n < 2 ^ 64
    → NamesPair (slot_number slot (answer 0 a n)) (slot_bytes slot (answer 0 a n)) a n
named slot a n room l m =
    let long : nat_lt (length slot) 16 ≡ false = grind (arith, nat_tests, room) in
    rw long (record { answers_zero = refl; names_offset = first slot a n l; names_length = second slot a n m })

-- some bytes that are there end in the file
pub in-file : (a : ℕ) (file bytes : List ℕ) → 0 < length bytes → take (length bytes) (drop a file) ≡ bytes
    → a + length bytes ≤ length file
in-file a file bytes s e = omega (arith, ap length e, length-take (length bytes) (drop a file), length-drop a file)

-- what the ID writer accepts is small enough for an ID
small : {id : List ℕ} {offset len : ℕ} → IsWrittenId id offset len → (offset < 2 ^ 40) × (len < 2 ^ 16)
small I = let e = I.writer_accepts in (grind (arith, nat_tests), grind (arith, nat_tests))

-- C is answered the place of an object that was found
module _ (slot : List ℕ) {file new bytes : List ℕ} {result : ℕ} {answered : Result Place FormatError} where
  pub names-place : IsPlaceOf answered file bytes → 0 < length bytes → length file < 2 ^ 64
      → result ≡ slot_number slot (report_of place_report answered)
      → new ≡ slot_bytes slot (report_of place_report answered)
      → slot_size ≤ length slot → NamesPlace result new file bytes
  names-place P some few u v room =
      let s = in-file P.position file bytes some P.bytes_there in
      let q = ap (report_of place_report) P.place_found in
      let N = named slot P.position (length bytes) room (omega (arith, s, few)) (omega (arith, s, few)) in
      rw (u ∙ ap (slot_number slot) q, v ∙ ap (slot_bytes slot) q)
      (record {
        answers_zero = N.answers_zero;
        names_length = N.names_length;
        bytes_there = ap (λ (x : ℕ). take (length bytes) (drop x file)) N.names_offset ∙ P.bytes_there;
      })

module _ (slot file id : List ℕ) (at offset_size length_size : ℕ) {new : List ℕ} {result : ℕ}
    {header : FractalHeapHeader}
    (g : header_at file at offset_size length_size ≡ Ok header) where
  -- what C is answered of an object where the header parses
  pub names-kept : length file < 2 ^ 64
      → result ≡ slot_number slot (report_of place_report (unchecked_by file at offset_size length_size id offset_size))
      → new ≡ slot_bytes slot (report_of place_report (unchecked_by file at offset_size length_size id offset_size))
      → ForKeptUnchecked header file offset_size id
      (λ bytes. slot_size ≤ length slot → NamesPlace result new file bytes)
  names-kept few u v c p k i H I m room =
      let found : unchecked_by file at offset_size length_size id offset_size
      ≡ managed_unchecked header file id offset_size =
      rw g in
      names-place slot (kept H I m found) (omega (arith, size-is H I, I.not_empty)) few u v room

  -- and with every block tested
  module _ (a : ℕ) where
    pub names-checked : length file < 2 ^ 64
        → result
        ≡ slot_number slot (report_of place_report (checked_by file at offset_size length_size a id offset_size))
        → new ≡ slot_bytes slot (report_of place_report (checked_by file at offset_size length_size a id offset_size))
        → ForKeptChecked header a file offset_size id
        (λ bytes. slot_size ≤ length slot → NamesPlace result new file bytes)
    names-checked few u v sums c p k i H address I m room =
        let found : checked_by file at offset_size length_size a id offset_size
        ≡ managed_checked header a file id offset_size = rw g in
        names-place slot (kept_checked H I m sums address found) (omega (arith, size-is H I, I.not_empty)) few u v room

  -- and of an ID that was written
  pub names-pair : HasTable header.table fixed
      → result ≡ slot_number slot (report_of id_report (id_by file at offset_size length_size id))
      → new ≡ slot_bytes slot (report_of id_report (id_by file at offset_size length_size id))
      → (offset len : ℕ) → IsWrittenId id offset len → IsManaged len header.max_managed_object_size
      → slot_size ≤ length slot → NamesPair result new offset len
  names-pair geometry u v offset len I m room =
      let S = small I in
      let decoded : id_by file at offset_size length_size id ≡ Ok (record { offset = offset; length = len }) =
      rw g ((λ j. decoded_id header.table header.max_managed_object_size (I.id_written j))
      ∙ decodes offset len S.0 S.1 header.table header.max_managed_object_size geometry m) in
      let q = ap (report_of id_report) decoded in
      rw (u ∙ ap (slot_number slot) q, v ∙ ap (slot_bytes slot) q)
      (named slot offset len room (omega (arith, S.0)) (omega (arith, S.1)))
