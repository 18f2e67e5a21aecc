-- A written ID decodes to what was written.
use Rattle.std.proofs.Common.{◌≡◌, refl, ap, ◌∙◌, ℕ, ◌+◌, ◌*◌, ◌^◌, ◌/◌, ◌%◌, ◌<◌, List, ◌++◌, length}
use Rattle.std.proofs.Common.{length-append, min, arith}
use Rattle.std.proofs.Math.Nat.{mod-eq_of_lt}
use Rattle.std.proofs.lemmas.Nat.{shr_high, mod_low}
use Rattle.std.proofs.lemmas.Bool.{lt-ltb}
use Rattle.std.proofs.lemmas.List.{take_all}
use Rattle.fields.specs.LittleEndian.{le, value, le_at}
use Rattle.fields.proofs.LittleEndian.{length-le, value-le, value-append}
use Rattle.table.specs.Table.{fixed}
use Rattle.std.specs.Prelude.{slice_index}
use Rattle.ids.specs.IdTypes.{type_of}
use Rattle.numbers.specs.Numbers.{bytes_needed}
use Rattle.numbers.proofs.Bytes.{bytes-fewest}
use Rattle.ids.specs.Written.{managed_id, IsManaged, IdReadsBack}
use Rattle.ids.proofs.Ids.{id-length}

module _ (o x : ℕ) (lo : o < 2 ^ 40) (hi : x < 2 ^ 16) where
  -- the number after its first byte
  id-number : le_at (managed_id fixed o x) 1 8 ≡ x * 2 ^ 40 + o
  unfolding le_at le
  id-number =
      let T : List ℕ = le 5 o ++ le 2 x in
      let n : length T ≡ 7 = simp length-append in
      let v = value-append (le 5 o) (le 2 x) in
      let a = value-le 5 o ∙ mod-eq_of_lt lo in
      let b = value-le 2 x ∙ mod-eq_of_lt hi in
      let p = ap (λ (m : ℕ). value (le 2 x) * 2 ^ (8 * m)) (length-le 5 o) in
      ap value (take_all 8 T (omega arith)) ∙ omega arith

  -- the bytes that the smaller of the largest direct block and the largest managed object needs hold the size of every
  -- object that is managed
  length-fits : (largest : ℕ) → IsManaged x largest → x < 2 ^ (8 * bytes_needed (min (2 ^ 16) largest))
  length-fits largest managed = omega (arith, (bytes-fewest (min (2 ^ 16) largest)).holds)

  pub decodes : IdReadsBack o x
  decodes numbers largest G managed =
      let l = id-length o x in
      let L : ℕ = bytes_needed (min (2 ^ 16) largest) in
      let first : type_of (slice_index (managed_id fixed o x) 0) ≡ 0 = (unfold le in refl) in
      let q : le_at (managed_id fixed o x) 1 8 % 2 ^ 40 ≡ o = rw id-number (mod_low x 40 o lo) in
      let high : x % 2 ^ (8 * L) ≡ x = mod-eq_of_lt (length-fits largest managed) in
      let r : le_at (managed_id fixed o x) 1 8 / 2 ^ 40 % 2 ^ (8 * L) ≡ x = rw (id-number, shr_high x 40 o lo) high in
      rw (
        lt-ltb 0 (length (managed_id fixed o x)) (omega arith),
        first,
        G.max_heap_size,
        G.max_direct_block_size,
        q,
        r,
      )
