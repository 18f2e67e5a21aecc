-- The bytes passed and those of the cases that are left are all.
use Rattle.std.proofs.Common.{◌≡◌, ◌+◌, ◌-◌, ◌≤◌, length}
use Rattle.std.specs.List.{sum_by}
use Rattle.run_reads.specs.Cases.{case_size, cases_of}
use Rattle.run_reads.proofs.end.Given as goal

abbrev pub invariant-loop-behind : goal.invariant-loop-behind
invariant-loop-behind l = record {
  passed : length l.list - length l.rest + sum_by case_size (cases_of l.rest) ≡ sum_by case_size (cases_of l.list);
  in_list : length l.rest ≤ length l.list;
}

abbrev pub decreases-loop-behind : goal.decreases-loop-behind
decreases-loop-behind l = length l.rest
