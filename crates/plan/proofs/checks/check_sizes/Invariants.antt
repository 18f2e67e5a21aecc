-- What is left of the list gives the answer of the whole.
use Rattle.std.proofs.Common.{◌≡◌, drop}
use Rattle.plan.specs.Checks.{sizes_checked}
use Rattle.plan.proofs.checks.check_sizes.Given as goal

abbrev pub invariant-loop-i : goal.invariant-loop-i
invariant-loop-i l = sizes_checked l.limit 0 l.sizes ≡ sizes_checked l.limit l.i (drop l.i l.sizes)
