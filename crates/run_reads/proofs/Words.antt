-- Words of a head, one by one.
use Rattle.std.proofs.Common.{◌≡◌, ℕ, ◌+◌, ◌<◌, ◌≤◌, ◌≢◌, List, length, drop, true, false, arith}
use Rattle.std.specs.Prelude.{slice_index}
use Rattle.std.proofs.lemmas.Bool.Decides.{nat_tests}
use Rattle.std.proofs.lemmas.List.{drop_more, drop_all}
use Rattle.fields.specs.LittleEndian.{le_at}
use Rattle.run_reads.specs.Head.{word_place, word_size}
use Rattle.run_reads.specs.Recorded.{has_words}

-- the next word stands there
pub words_next : (s words : List ℕ) (i : ℕ) → i < length words
    → slice_index words i ≡ le_at s (word_place i) word_size
    → has_words s (word_place i) (drop i words) ≡ has_words s (word_place (i + 1)) (drop (i + 1) words)
unfolding has_words
words_next s words i below same = grind (arith, nat_tests, drop_more)

-- the next word is another
pub words_other : (s words : List ℕ) (i : ℕ) → i < length words
    → slice_index words i ≢ le_at s (word_place i) word_size → has_words s (word_place i) (drop i words) ≡ false
unfolding has_words
words_other s words i below other = grind (arith, nat_tests, drop_more)

-- no word is left
pub words_done : (s words : List ℕ) (i place : ℕ) → length words ≤ i → has_words s place (drop i words) ≡ true
unfolding has_words
words_done s words i place past = grind (arith, drop_all)

-- what the comparison goes by
pub ruleset comparing = (words_next, words_other)
