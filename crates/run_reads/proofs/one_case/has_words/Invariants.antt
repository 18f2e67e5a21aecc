-- All words are there where those from here on are.
use Rattle.std.proofs.Common.{◌≡◌, drop}
use Rattle.run_reads.specs.Head.{words_place, word_place}
use Rattle.run_reads.specs.Recorded.{has_words}
use Rattle.run_reads.proofs.one_case.has_words.Given as goal

abbrev pub invariant-loop-i : goal.invariant-loop-i
invariant-loop-i l = has_words l.head words_place l.words ≡ has_words l.head (word_place l.i) (drop l.i l.words)
