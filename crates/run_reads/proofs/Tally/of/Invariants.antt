-- What is counted and what is left to count are all; no more cases are counted than bytes are passed.
use Rattle.std.proofs.Common.{◌≡◌, ◌+◌, ◌≤◌, length}
use Rattle.std.specs.List.{count_by}
use Rattle.run_reads.specs.Cases.{cases_of}
use Rattle.run_reads.specs.Answered.{is_of, differs}
use Rattle.run_reads.proofs.Tally.of.Given as goal

abbrev pub invariant-loop-case : goal.invariant-loop-case
invariant-loop-case l =
    let of_kind = is_of l.kind in
    let differ = differs l.kind in
    record {
      cases : l.tally.cases + count_by of_kind (cases_of l.rest) ≡ count_by of_kind (cases_of l.list);
      differ : l.tally.differ + count_by differ (cases_of l.rest) ≡ count_by differ (cases_of l.list);
      fewer : l.tally.differ ≤ l.tally.cases;
      passed : l.tally.cases + length l.rest ≤ length l.list;
    }

abbrev pub decreases-loop-case : goal.decreases-loop-case
decreases-loop-case l = length l.rest
