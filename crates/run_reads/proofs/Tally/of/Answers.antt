-- A case more: what was asked and answered stands in front of what was left.
use Rattle.std.proofs.Common.{◌≤◌, Bool, true, false, sym, arith}
use Rattle.std.specs.Prelude.{◌&&◌, not, if◌then◌else◌}
use Rattle.run_reads.specs.Cases.{head_in, file_in, id_in}
use Rattle.run_reads.specs.Answered.{is_of, differs, answered_as_recorded}
use Rattle.run_reads.proofs.Counting.{count_more, length_behind}
use Rattle.run_reads.proofs.Tally.of.Goals as goal

-- a case is one at most
at_most : (asked : Bool) → (if asked then 1 else 0) ≤ 1
at_most true = omega arith
at_most false = omega arith

-- and is no more than one where it differs
no_more : (asked otherwise : Bool) → (if asked && otherwise then 1 else 0) ≤ (if asked then 1 else 0)
no_more true otherwise = at_most otherwise
no_more false otherwise = omega arith

pub loop-case-preserved : goal.loop-case-preserved
loop-case-preserved c =
    let I = c.loop-case.invariant in
    let s = c.loop-case.rest.now in
    let E = c.in-Some.ensures in
    let one = rw E.parts.head at c.with_case-tally.ensures.cases in
    let other = rw (E.parts.head, E.parts.file, E.parts.id) at c.with_case-tally.ensures.differ in
    let same = answered_as_recorded (head_in s) (file_in s) (id_in s) in
    record {
      cases = omega (arith, one, I.cases, count_more (is_of c.args.kind) s _ (sym E.found) E.behind);
      differ = omega (arith, other, I.differ, count_more (differs c.args.kind) s _ (sym E.found) E.behind);
      fewer = omega (arith, one, other, no_more (is_of c.args.kind s) (not same), I.fewer);
      passed = omega (arith, one, at_most (is_of c.args.kind s), I.passed, length_behind s _ E.in_list E.behind);
    }
