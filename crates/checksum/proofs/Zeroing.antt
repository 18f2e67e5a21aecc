-- Bytes of which four count as zero, and the words and the groups of lookup3 over them.
use Rattle.std.proofs.Common.{◌≡◌, ℕ, zero, suc, ◌+◌, ◌-◌, ◌*◌, ◌/◌, ◌%◌, ◌^◌, ◌<◌, ◌≤◌, List, [], ◌∷◌, length}
use Rattle.std.proofs.Common.{take, drop, replicate, refl, sym, ap, ◌∙◌, arith, get_or-drop, add-zero}
use Rattle.std.proofs.lemmas.List.{places}
use Rattle.std.specs.Prelude.{slice_index}
use Rattle.fields.specs.LittleEndian.{le_at, value, put}
use Rattle.fields.proofs.LittleEndian.{length-put}
use Rattle.checksum.specs.declared.mixing.MixState.{MixState}
use Rattle.checksum.specs.Lookup3.{group_size, grouped}
use Rattle.checksum.specs.Words.{add32, sub32}
use Rattle.checksum.specs.Zeroed.{zeroed}

-- ---- a word by its bytes

front : (bytes : List ℕ)
    → value (take 4 bytes)
    ≡ slice_index bytes 0 + slice_index bytes 1 * 2 ^ 8 + slice_index bytes 2 * 2 ^ 16 + slice_index bytes 3 * 2 ^ 24
unfolding value
front [] = refl
front (a ∷ []) = omega arith
front (a ∷ b ∷ []) = omega arith
front (a ∷ b ∷ c ∷ []) = omega arith
front (a ∷ b ∷ c ∷ d ∷ bytes) = omega arith

word : (s : List ℕ) (p : ℕ)
    → le_at s p 4
    ≡ slice_index s p + slice_index s (p + 1) * 2 ^ 8 + slice_index s (p + 2) * 2 ^ 16
    + slice_index s (p + 3) * 2 ^ 24
unfolding le_at
word s p =
    front (drop p s)
    ∙ rw (get_or-drop p s 0 0, get_or-drop p s 1 0, get_or-drop p s 2 0, get_or-drop p s 3 0, add-zero p)

-- the same at p + d, for a number d
word_from : (s : List ℕ) (q p d : ℕ) → q ≡ p + d
    → le_at s q 4
    ≡ slice_index s (p + d) + slice_index s (p + (d + 1)) * 2 ^ 8 + slice_index s (p + (d + 2)) * 2 ^ 16
    + slice_index s (p + (d + 3)) * 2 ^ 24
word_from s q p d e =
    let one : p + (d + 1) ≡ q + 1 = omega arith in
    let two : p + (d + 2) ≡ q + 2 = omega arith in
    let three : p + (d + 3) ≡ q + 3 = omega arith in
    rw (sym e, one, two, three) (word s q)

module _ (bytes : List ℕ) (place : ℕ) (room : place + 4 ≤ length bytes) where
  pub zeroed_length : length (zeroed bytes place) ≡ length bytes
  zeroed_length = length-put bytes place (replicate 4 0) room

  -- ---- the bytes

  in_it : (p : ℕ) → place ≤ p → p < place + 4 → slice_index (zeroed bytes place) p ≡ 0
  unfolding put
  in_it p lo hi = grind (arith, places)

  before : (p : ℕ) → p < place → slice_index (zeroed bytes place) p ≡ slice_index bytes p
  unfolding put
  before p lo = grind (arith, places)

  behind : (p : ℕ) → place + 4 ≤ p → slice_index (zeroed bytes place) p ≡ slice_index bytes p
  unfolding put
  behind p lo = grind (arith, places)

  -- ---- the words

  pub word_before : (p : ℕ) → p + 4 ≤ place → le_at (zeroed bytes place) p 4 ≡ le_at bytes p 4
  word_before p h =
      omega (
        arith,
        word (zeroed bytes place) p,
        word bytes p,
        before p (omega arith),
        before (p + 1) (omega arith),
        before (p + 2) (omega arith),
        before (p + 3) (omega arith),
      )

  pub word_behind : (p : ℕ) → place + 4 ≤ p → le_at (zeroed bytes place) p 4 ≡ le_at bytes p 4
  word_behind p h =
      omega (
        arith,
        word (zeroed bytes place) p,
        word bytes p,
        behind p h,
        behind (p + 1) (omega arith),
        behind (p + 2) (omega arith),
        behind (p + 3) (omega arith),
      )

  module _ (small : (j : ℕ) → slice_index bytes j < 256) (p : ℕ) where
    abbrev field : ℕ
    field = le_at bytes place 4

    -- a word whose last bytes are the field's first
    pub word_last : p ≤ place → place - p < 4
        → le_at (zeroed bytes place) p 4 + field * 2 ^ (8 * (place - p)) % 2 ^ 32 ≡ le_at bytes p 4
    word_last k l = by (place - p) refl
      where
        by : (d : ℕ) → place - p ≡ d
            → le_at (zeroed bytes place) p 4 + field * 2 ^ (8 * d) % 2 ^ 32 ≡ le_at bytes p 4
        by zero e =
            let same : field ≡ le_at bytes p 4 = ap (λ (q : ℕ). le_at bytes q 4) (omega arith) in
            omega (
              arith,
              word (zeroed bytes place) p,
              word bytes p,
              in_it p (omega arith) (omega arith),
              in_it (p + 1) (omega arith) (omega arith),
              in_it (p + 2) (omega arith) (omega arith),
              in_it (p + 3) (omega arith) (omega arith),
              small p,
              small (p + 1),
              small (p + 2),
              small (p + 3),
              same,
            )
        by (suc zero) e =
            omega (
              arith,
              word (zeroed bytes place) p,
              word bytes p,
              word_from bytes place p 1 (omega arith),
              before p (omega arith),
              in_it (p + 1) (omega arith) (omega arith),
              in_it (p + 2) (omega arith) (omega arith),
              in_it (p + 3) (omega arith) (omega arith),
              small (p + 1),
              small (p + 2),
              small (p + 3),
            )
        by (suc (suc zero)) e =
            omega (
              arith,
              word (zeroed bytes place) p,
              word bytes p,
              word_from bytes place p 2 (omega arith),
              before p (omega arith),
              before (p + 1) (omega arith),
              in_it (p + 2) (omega arith) (omega arith),
              in_it (p + 3) (omega arith) (omega arith),
              small (p + 2),
              small (p + 3),
            )
        by (suc (suc (suc zero))) e =
            omega (
              arith,
              word (zeroed bytes place) p,
              word bytes p,
              word_from bytes place p 3 (omega arith),
              before p (omega arith),
              before (p + 1) (omega arith),
              before (p + 2) (omega arith),
              in_it (p + 3) (omega arith) (omega arith),
              small (p + 3),
            )
        by (suc (suc (suc (suc d)))) e = absurd (omega arith)

    -- a word whose first bytes are the field's last
    pub word_first : place < p → p - place < 4
        → le_at (zeroed bytes place) p 4 + field / 2 ^ (8 * (p - place)) ≡ le_at bytes p 4
    word_first k l = by (p - place) refl
      where
        by : (d : ℕ) → p - place ≡ d → le_at (zeroed bytes place) p 4 + field / 2 ^ (8 * d) ≡ le_at bytes p 4
        by zero e = absurd (omega arith)
        by (suc zero) e =
            omega (
              arith,
              word_from (zeroed bytes place) p place 1 (omega arith),
              word_from bytes p place 1 (omega arith),
              word bytes place,
              in_it (place + 1) (omega arith) (omega arith),
              in_it (place + 2) (omega arith) (omega arith),
              in_it (place + 3) (omega arith) (omega arith),
              behind (place + 4) (omega arith),
              small place,
            )
        by (suc (suc zero)) e =
            omega (
              arith,
              word_from (zeroed bytes place) p place 2 (omega arith),
              word_from bytes p place 2 (omega arith),
              word bytes place,
              in_it (place + 2) (omega arith) (omega arith),
              in_it (place + 3) (omega arith) (omega arith),
              behind (place + 4) (omega arith),
              behind (place + 5) (omega arith),
              small place,
              small (place + 1),
            )
        by (suc (suc (suc zero))) e =
            omega (
              arith,
              word_from (zeroed bytes place) p place 3 (omega arith),
              word_from bytes p place 3 (omega arith),
              word bytes place,
              in_it (place + 3) (omega arith) (omega arith),
              behind (place + 4) (omega arith),
              behind (place + 5) (omega arith),
              behind (place + 6) (omega arith),
              small place,
              small (place + 1),
              small (place + 2),
            )
        by (suc (suc (suc (suc d)))) e = absurd (omega arith)

  -- ---- the groups

  pub group_before : (at : ℕ) (s : MixState) → at + group_size ≤ place
      → grouped bytes at s ≡ grouped (zeroed bytes place) at s
  group_before at s h =
      rw (word_before at (omega arith), word_before (at + 4) (omega arith), word_before (at + 8) (omega arith))

  pub group_behind : (at : ℕ) (s : MixState) → place + 4 ≤ at
      → grouped bytes at s ≡ grouped (zeroed bytes place) at s
  group_behind at s h =
      rw (word_behind at h, word_behind (at + 4) (omega arith), word_behind (at + 8) (omega arith))

pub ruleset groups_apart = (group_before, group_behind)

pub ruleset word_parts = (word_before, word_behind, word_last, word_first)

-- what is taken from a word and then added
pub taken_before : (x z f y : ℕ) → z + f ≡ y → f < 2 ^ 32 → add32 (sub32 x f) y ≡ add32 x z
taken_before x z f y e h = omega arith
