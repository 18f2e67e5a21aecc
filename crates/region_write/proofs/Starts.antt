-- Placed direct blocks in heap order, by their heap offsets, and how a heap offset parts them.
use Rattle.std.proofs.Common.{ℕ, zero, suc, ◌+◌, ◌≤◌, ◌<◌, ◌⊎◌, inl, inr, ◌≡◌, refl, sym, ap, ◌∙◌, subst, true, false}
use Rattle.std.proofs.Common.{nat_lt}
use Rattle.std.proofs.Common.{List, [], ◌∷◌, ◌++◌, length, drop, slice_index, arith}
use Rattle.std.proofs.lemmas.Bool.{cases_lt}
use Rattle.std.proofs.lemmas.Bool.Decides.{nat_tests}
use Rattle.table.specs.Table.{Table}
use Rattle.table.specs.Slots.{slot_at}
use Rattle.table.proofs.Slots.{slot-some}
use Rattle.table_laws.proofs.Format.{SlotOf}
use Rattle.plan.specs.Plans.{sizes_at}

-- blocks in direct slots, each at or after the end of the one before, the first at or after lo
pub data Placed (t : Table) : ℕ → List ℕ → Type 0 where
  none : {lo : ℕ} → Placed t lo []
  more : {lo s : ℕ} {ss : List ℕ} → lo ≤ s → SlotOf t s (slot_at t s).size → Placed t (s + (slot_at t s).size) ss
      → Placed t lo (s ∷ ss)

-- those that begin before a heap offset, and the others
unfoldable pub before : ℕ → List ℕ → List ℕ
before end [] = []
before end (s ∷ ss) = elim (nat_lt s end) [ true ↦ s ∷ before end ss | false ↦ [] ]

unfoldable pub from : ℕ → List ℕ → List ℕ
from end [] = []
from end (s ∷ ss) = elim (nat_lt s end) [ true ↦ from end ss | false ↦ s ∷ ss ]

-- where the last of them ends; e where there is none
unfoldable pub last_end : Table → ℕ → List ℕ → ℕ
last_end t e [] = e
last_end t e (s ∷ ss) = last_end t (s + (slot_at t s).size) ss

module _ (s : ℕ) (ss : List ℕ) (end : ℕ) where
  pub before-yes : s < end → before end (s ∷ ss) ≡ s ∷ before end ss
  unfolding before
  before-yes l = grind (arith, nat_tests)

  pub before-no : end ≤ s → before end (s ∷ ss) ≡ []
  unfolding before
  before-no l = grind (arith, nat_tests)

  pub from-yes : s < end → from end (s ∷ ss) ≡ from end ss
  unfolding from
  from-yes l = grind (arith, nat_tests)

  pub from-no : end ≤ s → from end (s ∷ ss) ≡ s ∷ ss
  unfolding from
  from-no l = grind (arith, nat_tests)

module _ {t : Table} where
  -- none begins before they do
  pub before-none : {lo : ℕ} {ss : List ℕ} (end : ℕ) → end ≤ lo → Placed t lo ss → before end ss ≡ []
  unfolding before
  before-none end l none = refl
  before-none end l (more u S P) = grind (arith, nat_tests)

  pub from_all : {lo : ℕ} {ss : List ℕ} (end : ℕ) → end ≤ lo → Placed t lo ss → from end ss ≡ ss
  unfolding from
  from_all end l none = refl
  from_all end l (more u S P) = grind (arith, nat_tests)

  -- the others are placed from there on
  pub from-placed : {lo : ℕ} {ss : List ℕ} (end : ℕ) → Placed t lo ss → Placed t end (from end ss)
  unfolding from
  from-placed end none = none
  from-placed end (more {s = s} {ss = ss} u S P) = go (cases_lt s end) (from-placed end P)
    where
      go : (s < end) ⊎ (end ≤ s) → Placed t end (from end ss) → Placed t end (from end (s ∷ ss))
      go (inl l) R = rw (from-yes s ss end l) R
      go (inr l) R = rw (from-no s ss end l) (more {lo = end} {s = s} l S P)

-- a smaller offset parts them first
pub before-later : (lo hi : ℕ) (ss : List ℕ) → lo ≤ hi → before hi ss ≡ before lo ss ++ before hi (from lo ss)
unfolding before from
before-later lo hi [] l = refl
before-later lo hi (s ∷ ss) l = grind (arith, nat_tests, before-later lo hi ss l)

pub from-later : (lo hi : ℕ) (ss : List ℕ) → lo ≤ hi → from hi ss ≡ from hi (from lo ss)
unfolding from
from-later lo hi [] l = refl
from-later lo hi (s ∷ ss) l = grind (arith, nat_tests, from-later lo hi ss l)

pub sizes-append : (t : Table) (cs ds : List ℕ) → sizes_at t (cs ++ ds) ≡ sizes_at t cs + sizes_at t ds
unfolding sizes_at
sizes-append t [] ds = omega arith
sizes-append t (c ∷ cs) ds = omega (arith, sizes-append t cs ds)

pub end-append : (t : Table) (e : ℕ) (cs ds : List ℕ) → last_end t e (cs ++ ds) ≡ last_end t (last_end t e cs) ds
unfolding last_end
end-append t e [] ds = refl
end-append t e (c ∷ cs) ds = end-append t (c + (slot_at t c).size) cs ds

module _ {t : Table} where
  -- they end in order
  end-up : {lo : ℕ} {ss : List ℕ} → Placed t lo ss → lo ≤ last_end t lo ss
  unfolding last_end
  end-up none = omega arith
  end-up (more l S P) = omega (arith, end-up P)

  -- past the last end all of them have begun
  pub before-whole : {lo : ℕ} {ss : List ℕ} (end : ℕ) → Placed t lo ss → last_end t lo ss ≤ end → before end ss ≡ ss
  unfolding last_end before
  before-whole end none u = refl
  before-whole end (more {s = s} l S P) u = grind (arith, nat_tests, end-up P, slot-some t s, before-whole end P u)

  pub from-none : {lo : ℕ} {ss : List ℕ} (end : ℕ) → Placed t lo ss → last_end t lo ss ≤ end → from end ss ≡ []
  unfolding last_end from
  from-none end none u = refl
  from-none end (more {s = s} l S P) u = grind (arith, nat_tests, end-up P, slot-some t s, from-none end P u)

-- both parts are all of them
before-from : (end : ℕ) (ss : List ℕ) → before end ss ++ from end ss ≡ ss
unfolding before from
before-from end [] = refl
before-from end (s ∷ ss) = grind (arith, nat_tests, before-from end ss)

module _ {t : Table} where
  nth_after : {lo : ℕ} {ss : List ℕ} → Placed t lo ss → (n : ℕ) → n < length ss → lo ≤ slice_index ss n
  nth_after none n l = absurd (omega arith)
  nth_after (more u S P) zero l = u
  nth_after (more u S P) (suc n) l = omega (arith, nth_after P n (omega arith))

  -- those from the n-th on begin with it
  pub nth-from : {lo : ℕ} {ss : List ℕ} → Placed t lo ss → (n : ℕ) → n < length ss
      → from (slice_index ss n) ss ≡ slice_index ss n ∷ drop (suc n) ss
  nth-from none n l = absurd (omega arith)
  nth-from (more {s = s} {ss = ss} u S P) zero l = from-no s ss s (omega arith)
  nth-from (more {s = s} {ss = ss} u S P) (suc n) l =
      let begun : s < slice_index ss n = omega (arith, nth_after P n (omega arith), slot-some t s) in
      from-yes s ss (slice_index ss n) begun ∙ nth-from P n (omega arith)

  -- one of them ends at or before the last end
  pub end-reached : {lo b : ℕ} {ss bs : List ℕ} → Placed t lo ss → from b ss ≡ b ∷ bs
      → b + (slot_at t b).size ≤ last_end t lo ss
  unfolding last_end
  end-reached {lo} {b} {ss} {bs} P e = after (subst (Placed t b) e (from-placed b P))
    where
      parts : last_end t lo ss ≡ last_end t (b + (slot_at t b).size) bs
      parts = ap (last_end t lo) (sym (before-from b ss)) ∙ end-append t lo (before b ss) (from b ss)
          ∙ ap (last_end t (last_end t lo (before b ss))) e

      after : Placed t b (b ∷ bs) → b + (slot_at t b).size ≤ last_end t lo ss
      after (more u S Q) = omega (arith, end-up Q, parts)

-- and has one of their sizes
pub size-within : (t : Table) (ss : List ℕ) {b : ℕ} {bs : List ℕ} → from b ss ≡ b ∷ bs
    → sizes_at t (before b ss) + (slot_at t b).size ≤ sizes_at t ss
unfolding sizes_at
size-within t ss {b} e =
    let all = ap (sizes_at t) (sym (before-from b ss)) ∙ sizes-append t (before b ss) (from b ss) in
    let behind = ap (sizes_at t) e in
    omega arith
