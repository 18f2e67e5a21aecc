-- A list of cases, byte by byte: src/main.rt says at its top what a case is.
use Rattle.std.specs.Prelude.{ℕ, zero, suc, ◌+◌, ◌-◌, ◌≡◌, List, [], ◌∷◌, length, take, drop}
use Rattle.std.specs.Prelude.{Bool, ◌&&◌, ◌||◌, ◌==◌, nat_le, if◌then◌else◌}
use Rattle.run_reads.specs.Head.{kind_in, last_kind, file_bytes, id_bytes, word_count_in}
use Rattle.run_reads.specs.Head.{answer_words, words_place, word_place}
use Rattle.fractal_heap.specs.Header.{number_count}
use Rattle.run_reads.specs.declared.one_case.Case.{Case}

-- how many bytes the head of the case in front has, its words with it; and all of the case
abbrev pub head_bytes : (list : List ℕ) → ℕ
head_bytes list = word_place (word_count_in list)

abbrev pub case_size : (list : List ℕ) → ℕ
case_size list = head_bytes list + file_bytes list + id_bytes list

-- these parts of it, one behind the other
abbrev pub head_in : (list : List ℕ) → List ℕ
head_in list = take (head_bytes list) list

abbrev pub file_in : (list : List ℕ) → List ℕ
file_in list = take (file_bytes list) (drop (head_bytes list) list)

abbrev pub id_in : (list : List ℕ) → List ℕ
id_in list = take (id_bytes list) (drop (file_bytes list) (drop (head_bytes list) list))

-- a whole case is in front: one of the five kinds, with the words of an answer or of a header
abbrev pub begins_case : (list : List ℕ) → Bool
begins_case list =
    nat_le words_place (length list)
    && (nat_le (kind_in list) last_kind
    && (((word_count_in list == answer_words) || (word_count_in list == number_count))
    && nat_le (case_size list) (length list)))

-- the case in front
pub record IsCase (case : Case) (list : List ℕ) : Type 0 where
  pub head : case.head.now ≡ head_in list
  pub file : case.file.now ≡ file_in list
  pub id : case.id.now ≡ id_in list

-- the cases one after another, each with all that is behind it, up to the first place where none
-- begins; the first bytes, so many, belong to the case before
unfoldable pub cases_behind : (size : ℕ) (list : List ℕ) → List (List ℕ)
cases_behind size [] = []
cases_behind (suc size) (b ∷ bs) = cases_behind size bs
cases_behind zero (b ∷ bs) =
    if begins_case (b ∷ bs)
    then (b ∷ bs) ∷ cases_behind (case_size (b ∷ bs) - 1) bs
    else []

-- the cases of a list
abbrev pub cases_of : (list : List ℕ) → List (List ℕ)
cases_of list = cases_behind 0 list
