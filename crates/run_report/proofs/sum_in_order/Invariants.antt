-- The sum so far is a remainder.
use Rattle.std.proofs.Common.{◌<◌}
use Rattle.run_report.proofs.sum_in_order.Given as goal

abbrev pub invariant-loop-number : goal.invariant-loop-number
invariant-loop-number l = l.sum < 1000000007
