-- What the head of a case records: a number, and words.
use Rattle.std.specs.Prelude.{ℕ, ◌+◌, List, [], ◌∷◌, length, Bool, true, ◌&&◌, ◌==◌, Result, Ok}
use Rattle.std.specs.Prelude.{Err}
use Rattle.fields.specs.LittleEndian.{le_at}
use Rattle.run_reads.specs.Head.{number_in, words_place, word_size, word_place}
use Rattle.refusals.specs.Refusals.{refusal}
use Rattle.refusals.specs.declared.answer.Answer.{Answer}
use Rattle.refusals.specs.declared.FormatError.{FormatError}
use Rattle.fractal_heap.specs.declared.header.FractalHeapHeader.{FractalHeapHeader}
use Rattle.fractal_heap.specs.Header.{parsed_numbers}

-- these words stand one after another from a place on
unfoldable pub has_words : (head : List ℕ) (place : ℕ) (words : List ℕ) → Bool
has_words head place [] = true
has_words head place (word ∷ words) =
    (le_at head place word_size == word) && has_words head (place + word_size) words

-- the head records this number and these words, and no more
abbrev pub is_recorded : (head : List ℕ) (number : ℕ) (words : List ℕ) → Bool
is_recorded head number words =
    (length head == word_place (length words))
    && ((number_in head == number) && has_words head words_place words)

-- an answer: its number and its two values
abbrev pub is_answer : (head : List ℕ) (answer : Answer) → Bool
is_answer head answer = is_recorded head answer.number (answer.first ∷ answer.second ∷ [])

-- what parsing gave: of an accepted header number 0 and its numbers
abbrev pub is_parsed : (head : List ℕ) (parsed : Result FractalHeapHeader FormatError) → Bool
is_parsed head (Ok header) = is_recorded head 0 (parsed_numbers header)
is_parsed head (Err error) = is_answer head (refusal error)
