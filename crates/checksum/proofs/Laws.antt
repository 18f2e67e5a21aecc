-- The laws of the loop and of the switch.
use Rattle.std.proofs.Common.{◌≡◌, ℕ, suc, ◌+◌, ◌-◌, ◌<◌, ◌≤◌, List, length, sym, arith}
use Rattle.checksum.specs.Mix.{mixed}
use Rattle.checksum.specs.declared.mixing.MixState.{MixState}
use Rattle.checksum.specs.Lookup3.{group_size, grouped, mixed_groups, groups_of}
use Rattle.checksum.specs.Laws.{MixedWhileMore, SwitchedByCase, TailsSwitched}
use Rattle.checksum.proofs.Switch.{switch-words, tail-group}
use Rattle.checksum.proofs.Switch.{after_none, after_case, after_above, after_rest}
use Rattle.checksum.proofs.Loop.{groups-more, groups_none}

turn-mixed : (bytes : List ℕ) (at : ℕ) (s : MixState) → group_size < length bytes - at
    → mixed_groups bytes at (groups_of (length bytes - at)) s
    ≡ mixed_groups bytes (at + group_size) (groups_of (length bytes - (at + group_size))) (mixed (grouped bytes at s))
unfolding mixed_groups
turn-mixed bytes at s h =
    let more : groups_of (length bytes - at) ≡ suc (groups_of (length bytes - at - group_size)) =
    groups-more (length bytes - at) h in
    let left : length bytes - (at + group_size) ≡ length bytes - at - group_size = omega arith in
    rw (more, left)

turns_end : (bytes : List ℕ) (at : ℕ) (s : MixState) → length bytes - at ≤ group_size
    → mixed_groups bytes at (groups_of (length bytes - at)) s ≡ s
unfolding mixed_groups
turns_end bytes at s h = rw (groups_none (length bytes - at) h)

pub mixed-while-more : MixedWhileMore
mixed-while-more = record { while_left = groups-more; none = groups_none; turn = turn-mixed; end = turns_end }

pub tails-switched : TailsSwitched
tails-switched = record {
  words = switch-words;
  group = λ bytes at s f h. sym (tail-group bytes at h f);
}

pub switched-by-case : SwitchedByCase
switched-by-case = record {
  none = after_none;
  case = after_case;
  above = after_above;
  rest = after_rest;
}
