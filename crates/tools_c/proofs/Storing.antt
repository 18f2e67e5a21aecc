-- The answers of `read_each`, stored three at a time: what is left to store, stored from here, is the whole store.
use Rattle.std.proofs.Common.{◌≡◌, ℕ, zero, suc, ◌+◌, ◌-◌, ◌*◌, ◌≤◌, ◌<◌, List, ◌++◌, length, take, drop, set, Result}
use Rattle.std.proofs.Common.{refl, sym, arith}
use Rattle.std.proofs.Math.Seq.{drop-drop, sets}
use Rattle.std.proofs.lemmas.List.Edits.{sets-eq}
use Rattle.refusals.specs.Refusals.{report_of}
use Rattle.refusals.specs.declared.answer.Answer.{Answer}
use Rattle.fields.specs.Places.{place_report}
use Rattle.fields.specs.declared.place.Place.{Place}
use Rattle.refusals.specs.declared.FormatError.{FormatError}
use Rattle.tools_c.specs.ObjectNumbers.{answers_from}

module _ (answered : List ℕ → Result Place FormatError) where
  length-answers : (n : ℕ) (ids : List ℕ) → length (answers_from answered n ids) ≡ 3 * n
  unfolding answers_from
  length-answers zero ids = refl
  length-answers (suc n) ids = rw (length-answers n (drop 8 ids)) (omega arith)

  -- the answers for the IDs from the i-th on, stored in their places
  abbrev pub rest : (found ids : List ℕ) (n i : ℕ) → List ℕ
  rest found ids n i = sets found (3 * i) (answers_from answered (n - i) (drop (8 * i) ids))

  pub rest_begun : (found ids : List ℕ) (n : ℕ) → 3 * n ≤ length found
      → answers_from answered n ids ++ drop (3 * n) found ≡ rest found ids n 0
  rest_begun found ids n room =
      let all : n - 0 ≡ n = omega arith in
      let none : 3 * 0 ≡ 0 = omega arith in
      let behind : 0 + length (answers_from answered n ids) ≡ 3 * n = rw (length-answers n ids) (omega arith) in
      let stored = sets-eq (answers_from answered n ids) found 0 (rw (length-answers n ids) (omega arith)) in
      rw (all, none) (sym (rw behind at stored))

  pub rest_more : (found ids : List ℕ) (n i x : ℕ) (a : Answer) → i < n → x ≡ a.number
      → a ≡ report_of place_report (answered (take (8 * i + 8 - 8 * i) (drop (8 * i) ids)))
      → rest found ids n i
      ≡ rest (set (set (set found (3 * i) x) (3 * i + 1) a.first) (3 * i + 2) a.second) ids n (i + 1)
  unfolding answers_from
  rest_more found ids n i x a below number e =
      let left : n - i ≡ suc (n - (i + 1)) = omega arith in
      let next : 3 * (i + 1) ≡ suc (suc (suc (3 * i))) = omega arith in
      let one : 3 * i + 1 ≡ suc (3 * i) = omega arith in
      let two : 3 * i + 2 ≡ suc (suc (3 * i)) = omega arith in
      let bytes : 8 * (i + 1) ≡ 8 * i + 8 = omega arith in
      let eight : 8 * i + 8 - 8 * i ≡ 8 = omega arith in
      rw (left, next, one, two, bytes, number, e, eight, drop-drop 8 (8 * i) ids)

  pub rest_done : (found ids : List ℕ) (n i : ℕ) → n ≤ i → rest found ids n i ≡ found
  unfolding answers_from
  rest_done found ids n i done =
      let none : n - i ≡ 0 = omega arith in
      rw none
