-- The loop of `jenkins_lookup3` over the groups: how it starts, goes on and ends.
use Rattle.std.proofs.Common.{◌≡◌, ℕ, suc, ◌+◌, ◌-◌, ◌*◌, ◌<◌, ◌≤◌, List, length, drop, refl, ap}
use Rattle.std.proofs.Common.{arith}
use Rattle.checksum.specs.declared.mixing.MixState.{MixState}
use Rattle.checksum.specs.Mix.{mixed}
use Rattle.checksum.specs.Lookup3.{group_size, grouped, mixed_groups, groups_of, begun, body, tail_of, ended}
use Rattle.checksum.specs.Lookup3.{hashlittle}

-- ---- the groups

pub groups-more : (n : ℕ) → group_size < n → groups_of n ≡ suc (groups_of (n - group_size))
groups-more n h = omega arith

pub groups_none : (n : ℕ) → n ≤ group_size → groups_of n ≡ 0
groups_none n h = omega arith

-- while the loop runs: the groups left, from the words so far, give the words after all groups
pub record Looping (bytes : List ℕ) (s : MixState) (at : ℕ) : Type 0 where
  pub within : at < length bytes
  pub place : at + group_size * groups_of (length bytes - at) ≡ group_size * groups_of (length bytes)
  pub words : mixed_groups bytes at (groups_of (length bytes - at)) s ≡ body bytes

pub loop_start : (bytes : List ℕ) (s : MixState) → 0 < length bytes → s ≡ begun (length bytes) → Looping bytes s 0
loop_start bytes s h e = record { within = omega arith; place = rw none (omega arith); words = rw (none, e) }
  where
    none : length bytes - 0 ≡ length bytes
    none = omega arith

module _ {bytes : List ℕ} {s : MixState} {at : ℕ} (w : Looping bytes s at) where
  pub loop_more : group_size < length bytes - at → Looping bytes (mixed (grouped bytes at s)) (at + group_size)
  unfolding mixed_groups
  loop_more h =
      record {
        within = omega arith;
        place = rw left (omega (arith, w.place, more));
        words = rw left (rw more at w.words);
      }
    where
      more : groups_of (length bytes - at) ≡ suc (groups_of (length bytes - at - group_size))
      more = groups-more (length bytes - at) h

      left : length bytes - (at + group_size) ≡ length bytes - at - group_size
      left = omega arith

  module _ (h : length bytes - at ≤ group_size) where
    words-done : s ≡ body bytes
    unfolding mixed_groups
    words-done = rw (groups_none (length bytes - at) h) at w.words

    tail-here : drop at bytes ≡ tail_of bytes
    tail-here =
        let here : at ≡ group_size * groups_of (length bytes) =
        omega (arith, w.place, groups_none (length bytes - at) h) in
        ap (λ (n : ℕ). drop n bytes) here

    pub loop-tail : ended (drop at bytes) s ≡ hashlittle bytes
    unfolding hashlittle
    loop-tail = rw (tail-here, words-done) refl

-- no group of few bytes is mixed, and all of them are the tail
pub few_ended : (bytes : List ℕ) → length bytes ≤ group_size → ended bytes (begun (length bytes)) ≡ hashlittle bytes
unfolding hashlittle mixed_groups
few_ended bytes h = rw (groups_none (length bytes) h) refl
