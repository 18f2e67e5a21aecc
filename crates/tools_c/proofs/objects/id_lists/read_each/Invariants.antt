-- What is left to store, stored from here, is the whole store.
use Rattle.std.proofs.Common.{◌≡◌, ◌*◌, ◌++◌, drop}
use Rattle.tools_c.specs.ObjectNumbers.{answers_from}
use Rattle.tools_c.proofs.Storing.{rest}
use Rattle.tools_c.proofs.objects.id_lists.read_each.Given as goal

abbrev pub invariant-loop-i : goal.invariant-loop-i
invariant-loop-i g l =
    let answered = g.R.ObjectReader.answered l.objects l.header in
    answers_from answered l.n l.ids ++ drop (3 * l.n) l.fn.found ≡ rest answered l.found l.ids l.n l.i
