-- What is left of `lookup3_zeroed`: the groups by the laws of the loop over the list with zeros, then the tail.
use Rattle.std.proofs.Common.{◌∙◌, sym, ap, arith}
use Rattle.std.proofs.lemmas.List.{take_rest}
use Rattle.checksum.specs.Mix.{mixed}
use Rattle.checksum.proofs.Switch.{tails_end_alike}
use Rattle.checksum.proofs.Loop.{loop_start, loop_more, loop-tail}
use Rattle.checksum.proofs.Zeroing.{zeroed_length}
use Rattle.checksum.proofs.zeroed.lookup3_zeroed.Goals as goal

pub loop-at-init : goal.loop-at-init
loop-at-init c =
    let e = zeroed_length _ _ c.requires in
    record {
      words = record { a = omega arith; b = omega arith; c = omega arith };
      within = omega arith;
      groups = loop_start _ _ (omega arith) (rw (e, c.begun-s.ensures));
    }

pub loop-at-preserved : goal.loop-at-preserved
loop-at-preserved c =
    let e = zeroed_length _ _ c.requires in
    let next = c.mix-s.ensures ∙ ap mixed (c.add_group.ensures ∙ c.without_field.ensures) in
    record {
      words = record { a = omega arith; b = omega arith; c = omega arith };
      within = omega arith;
      groups = rw next (loop_more c.loop-at.invariant.groups (omega arith));
    }

pub returns : goal.returns
returns c =
    let e = zeroed_length _ _ c.requires in
    rw (c.ended.ensures, take_rest)
    (tails_end_alike _ _ _ (sym e) c.loop-at.invariant.within (omega arith)
    (record { a = omega arith; b = omega arith; c = omega arith }) c.loop-at.invariant.words c.without_field-2.ensures
    ∙ loop-tail c.loop-at.invariant.groups (omega arith))
