-- The groups that are left, from the words so far, give the words after all groups; each turn leaves fewer bytes.
use Rattle.std.proofs.Common.{◌-◌, ◌<◌, length}
use Rattle.checksum.specs.Undoing.{Fit}
use Rattle.checksum.specs.Zeroed.{zeroed}
use Rattle.checksum.proofs.Loop.{Looping}
use Rattle.checksum.proofs.zeroed.lookup3_zeroed.Given as goal

abbrev pub invariant-loop-at : goal.invariant-loop-at
invariant-loop-at l = record {
  words : Fit l.s;
  within : l.at < length l.bytes;
  groups : Looping (zeroed l.bytes l.place) l.s l.at;
}

abbrev pub decreases-loop-at : goal.decreases-loop-at
decreases-loop-at l = length l.bytes - l.at
