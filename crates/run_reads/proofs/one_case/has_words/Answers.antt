-- At the end no word is left.
use Rattle.std.proofs.Common.{sym, ◌∙◌, arith}
use Rattle.run_reads.specs.Head.{word_place}
use Rattle.run_reads.proofs.Words.{words_done}
use Rattle.run_reads.proofs.one_case.has_words.Goals as goal

pub returns : goal.returns
returns c =
    let i = c.loop-i.i in
    sym (c.loop-i.invariant ∙ words_done c.args.head.now c.args.words.now i (word_place i) (omega arith))
