-- The bytes that are left to store, stored from here, make the whole.
use Rattle.std.proofs.Common.{◌≡◌, ◌-◌, length}
use Rattle.std.proofs.Math.Seq.{sets}
use Rattle.run_report.specs.Sequence.{bytes_after}
use Rattle.run_report.proofs.fill.Given as goal

abbrev pub invariant-loop-byte : goal.invariant-loop-byte
invariant-loop-byte l =
    bytes_after 1 (length l.fn.bytes) ≡ sets l.bytes l.byte-index (bytes_after l.x (length l.fn.bytes - l.byte-index))
