-- What the definition of hashlittle says of its loop and of its switch.
use Rattle.std.specs.Prelude.{ℕ, suc, ◌≡◌, ◌<◌, ◌≤◌, ◌+◌, ◌-◌, List, length, drop}
use Rattle.checksum.specs.Mix.{mixed}
use Rattle.checksum.specs.declared.mixing.MixState.{MixState}
use Rattle.checksum.specs.Undoing.{Fit}
use Rattle.checksum.specs.Lookup3.{group_size, grouped, mixed_groups, groups_of}
use Rattle.checksum.specs.Lookup3.{case_met, switched, after}

-- the loop mixes a group exactly while more bytes remain than it has
pub record MixedWhileMore : Type 0 where
  pub while_left : (n : ℕ) → group_size < n → groups_of n ≡ suc (groups_of (n - group_size))
  pub none : (n : ℕ) → n ≤ group_size → groups_of n ≡ 0
  pub turn : (bytes : List ℕ) (at : ℕ) (s : MixState) → group_size < length bytes - at
      → mixed_groups bytes at (groups_of (length bytes - at)) s
      ≡ mixed_groups bytes (at + group_size) (groups_of (length bytes - (at + group_size)))
      (mixed (grouped bytes at s))
  pub end : (bytes : List ℕ) (at : ℕ) (s : MixState) → length bytes - at ≤ group_size
      → mixed_groups bytes at (groups_of (length bytes - at)) s ≡ s

-- the words after case n of the switch, whatever the words before it and the tail: before case 12
-- they are as they were; case n makes its words of those after case n + 1; no case above the tail's
-- length is met; what is left below case n + 1 makes the whole of the words after it, so that after
-- case 1, with n = 0, all is done
pub record SwitchedByCase : Type 0 where
  pub none : (tail : List ℕ) (s : MixState) → after (group_size + 1) tail s ≡ s
  pub case : (n : ℕ) (tail : List ℕ) (s : MixState) → 0 < n → n ≤ group_size
      → after n tail s ≡ case_met n tail (after (n + 1) tail s)
  pub above : (n : ℕ) (tail : List ℕ) (s : MixState)
      → length tail < n → n ≤ group_size + 1 → after n tail s ≡ s
  pub rest : (n : ℕ) (tail : List ℕ) (s : MixState) → n ≤ group_size
      → switched group_size tail s ≡ switched n tail (after (n + 1) tail s)

-- the switch adds to three 32-bit words what a tail's bytes are as words, four to each
pub record TailsSwitched : Type 0 where
  pub words : (tail : List ℕ) (s : MixState) → Fit s
      → length tail ≤ group_size → switched group_size tail s ≡ grouped tail 0 s
  pub group : (bytes : List ℕ) (at : ℕ) (s : MixState) → Fit s
      → length bytes ≤ at + group_size
      → switched group_size (drop at bytes) s ≡ grouped bytes at s
