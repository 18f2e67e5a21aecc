-- What stands behind the fields of an ID is not looked at.
use Rattle.std.proofs.Common.{◌≡◌, refl, sym, ap, ◌∙◌, ℕ, ◌+◌, ◌-◌, ◌*◌, ◌^◌, ◌/◌, ◌≤◌, ◌<◌, List, ◌++◌, arith}
use Rattle.std.proofs.Common.{length, drop, slice_index, nat_lt, true, ◌⊎◌, inl, inr, pow-add, length-drop}
use Rattle.std.proofs.Common.{length-append, Result}
use Rattle.std.proofs.lemmas.Bool.{cases_lt, lt-ltb}
use Rattle.std.proofs.lemmas.Nat.{pow_pos}
use Rattle.std.proofs.Math.Nat.{add-mul-mod_self_right, add-mul-div_right}
use Rattle.std.proofs.lemmas.List.{drop-append-le, take-append-le}
use Rattle.std.proofs.Math.ListN.{get_or-append}
use Rattle.fields.specs.LittleEndian.{le_at}
use Rattle.fields.proofs.LittleEndian.{le_at-add}
use Rattle.reading.specs.declared.rows.DoublingTable.{DoublingTable}
use Rattle.ids.specs.Decoded.{length_bytes_in, split_id, decoded_id, HasFields, IgnoresPadding}
use Rattle.ids.specs.declared.decode.ManagedId.{ManagedId}
use Rattle.refusals.specs.declared.FormatError.{FormatError}

-- what a number has from some bit on, behind both fields, is not looked at
split-low : (heap_bits length_bytes x v rest : ℕ)
    → split_id heap_bits length_bytes (x + v * 2 ^ (rest + 8 * length_bytes + heap_bits))
    ≡ split_id heap_bits length_bytes x
split-low B L x v rest =
    let parts : v * 2 ^ (rest + 8 * L + B) ≡ v * 2 ^ rest * 2 ^ (8 * L) * 2 ^ B =
    rw (pow-add 2 (rest + 8 * L) B, pow-add 2 rest (8 * L)) (grind arith) in
    rw (
      parts,
      add-mul-mod_self_right x (v * 2 ^ rest * 2 ^ (8 * L)) (2 ^ B),
      add-mul-div_right x (v * 2 ^ rest * 2 ^ (8 * L)) (pow_pos B),
      add-mul-mod_self_right (x / 2 ^ B) (v * 2 ^ rest) (2 ^ (8 * L)),
    ) refl

module _ (fields padding : List ℕ) (n : ℕ) (there : 1 + n ≤ length fields) where
  -- bytes that are all there are the same in the longer ID
  same-front : le_at (fields ++ padding) 1 n ≡ le_at fields 1 n
  unfolding le_at
  same-front =
      let rest : n ≤ length (drop 1 fields) = rw length-drop (omega arith) in
      rw (drop-append-le 1 fields padding (omega arith), take-append-le n (drop 1 fields) padding rest) refl

  -- what stands behind them counts for more
  same-split : (heap_bits length_bytes : ℕ) → n ≤ 8 → heap_bits + 8 * length_bytes ≤ 8 * n
      → split_id heap_bits length_bytes (le_at (fields ++ padding) 1 8)
      ≡ split_id heap_bits length_bytes (le_at fields 1 8)
  same-split B L few h =
      let rest : 8 * n ≡ 8 * n - (B + 8 * L) + 8 * L + B = omega arith in
      let low : (v : ℕ) → split_id B L (le_at fields 1 n + v * 2 ^ (8 * n)) ≡ split_id B L (le_at fields 1 n) =
      λ v. ap (λ (k : ℕ). split_id B L (le_at fields 1 n + v * 2 ^ k)) rest
      ∙ split-low B L (le_at fields 1 n) v (8 * n - (B + 8 * L)) in
      let whole : 8 ≡ n + (8 - n) = omega arith in
      let longer : 1 + n ≤ length (fields ++ padding) = rw length-append (omega arith) in
      let padded : le_at (fields ++ padding) 1 8 ≡ le_at fields 1 n
      + le_at (fields ++ padding) (1 + n) (8 - n) * 2 ^ (8 * n) =
      ap (le_at (fields ++ padding) 1) whole ∙ le_at-add n (8 - n) (fields ++ padding) 1 longer
      ∙ ap (λ (x : ℕ). x + le_at (fields ++ padding) (1 + n) (8 - n) * 2 ^ (8 * n)) same-front in
      let own : le_at fields 1 8 ≡ le_at fields 1 n + le_at fields (1 + n) (8 - n) * 2 ^ (8 * n) =
      ap (le_at fields 1) whole ∙ le_at-add n (8 - n) fields 1 there in
      ap (split_id B L) padded ∙ low (le_at (fields ++ padding) (1 + n) (8 - n))
      ∙ sym (ap (split_id B L) own ∙ low (le_at fields (1 + n) (8 - n)))

-- an ID that has both fields is decoded as if nothing stood behind them
padded-alike : (table : DoublingTable) (largest : ℕ) (fields padding : List ℕ) → HasFields table largest fields
    → decoded_id table largest (fields ++ padding) ≡ decoded_id table largest fields
padded-alike table largest fields padding h =
    let first : slice_index (fields ++ padding) 0 ≡ slice_index fields 0 =
    get_or-append fields padding 0 0 (omega arith) in
    let some : nat_lt 0 (length fields) ≡ true = lt-ltb 0 (length fields) (omega arith) in
    let more : nat_lt 0 (length (fields ++ padding)) ≡ true =
    lt-ltb 0 (length (fields ++ padding)) (rw length-append (omega arith)) in
    rw (some, more, first, split-alike (cases_lt (length fields) 9)) refl
  where
    split-alike : (length fields < 9) ⊎ (9 ≤ length fields)
        → split_id table.max_heap_size (length_bytes_in table largest) (le_at (fields ++ padding) 1 8)
        ≡ split_id table.max_heap_size (length_bytes_in table largest) (le_at fields 1 8)
    split-alike (inl few) =
        same-split fields padding (length fields - 1) (omega arith) table.max_heap_size (length_bytes_in table largest)
        (omega arith) (omega arith)
    split-alike (inr many) =
        ap (split_id table.max_heap_size (length_bytes_in table largest)) (same-front fields padding 8 (omega arith))

pub padding-ignored : (table : DoublingTable) (largest : ℕ) (id : List ℕ) (answered : Result ManagedId FormatError)
    → answered ≡ decoded_id table largest id → IgnoresPadding table largest id answered
padding-ignored table largest id answered e fields padding is h =
    e ∙ ap (decoded_id table largest) is ∙ padded-alike table largest fields padding h
