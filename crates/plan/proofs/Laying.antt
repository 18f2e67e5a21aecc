-- Planning that goes through, object by object: where each goes, and what follows for all of them.
use Rattle.std.proofs.Common.{◌≡◌, ℕ, zero, suc, ◌+◌, ◌<◌, ◌≤◌, ◌⊎◌, List, [], ◌∷◌, length, slice_index, Some, None, Ok}
use Rattle.std.proofs.Common.{Option, sym, refl, ◌∙◌, subst, inl, ⊎_elim, arith}
use Rattle.table.specs.Table.{Table, fixed}
use Rattle.table.specs.Sizes.{direct_header}
use Rattle.numbers.specs.Sums.{sum}
use Rattle.planner.specs.declared.State.{State}
use Rattle.planner.specs.Steps.{initial, block_end, step_of, run_from, offsets_from, starts_from, run, plan_offsets}
use Rattle.planner.specs.Steps.{plan_starts}
use Rattle.planner.proofs.Stepping.{Sane, Placing, Same, New, step-placed, ok-initial}
use Rattle.planner.proofs.Running.{run-stops, run-goes, offsets-go, starts-go-same, starts-go-new}
use Rattle.table_laws.proofs.Format.{SlotOf}

-- from a state on, the sizes, their offsets, the starts of the blocks that open for them, and the state after them
pub data Laid (t : Table) (w : ℕ) : State → List ℕ → List ℕ → List ℕ → State → Type 0 where
  end : {s : State} → Laid t w s [] [] [] s
  same : {s s₁ s' : State} {x o : ℕ} {xs os bs : List ℕ} → Placing t w s x s₁ o → Same s s₁ o
      → Laid t w s₁ xs os bs s' → Laid t w s (x ∷ xs) (o ∷ os) bs s'
  new : {s s₁ s' : State} {x o : ℕ} {xs os bs : List ℕ} → Placing t w s x s₁ o → New t w s s₁ o
      → Laid t w s₁ xs os bs s' → Laid t w s (x ∷ xs) (o ∷ os) (s₁.start ∷ bs) s'

module _ (t : Table) (g : t.start_bits ≤ t.direct_bits) (k : t.start_bits ≤ t.heap_bits) (w : ℕ) where
  -- a run that ends well is laid
  pub laid : (xs : List ℕ) (s : State) (i : ℕ) (s' : State) → Sane t w s → run_from t w s xs i ≡ Ok s'
      → Laid t w s xs (offsets_from t w s xs) (starts_from t w s xs) s'
  unfolding run_from offsets_from starts_from
  laid [] s i s' I e = subst (Laid t w s [] [] []) (let z : s ≡ s' = cc in z) end
  laid (x ∷ xs) s i s' I e = go (step_of t w s x) refl (λ s₁. laid xs s₁ (suc i) s')
    where
      go : (v : Option (State × ℕ)) → step_of t w s x ≡ v
          → ((s₁ : State) → Sane t w s₁ → run_from t w s₁ xs (suc i) ≡ Ok s'
          → Laid t w s₁ xs (offsets_from t w s₁ xs) (starts_from t w s₁ xs) s')
          → Laid t w s (x ∷ xs) (offsets_from t w s (x ∷ xs)) (starts_from t w s (x ∷ xs)) s'
      go (Some (s₁, o)) q ih =
          let P = step-placed t g k w s x I s₁ o q in
          let L = ih s₁ P.ok (sym (run-goes t w s x xs s₁ o q i) ∙ e) in
          rw (offsets-go t w s x xs s₁ o q)
          (⊎_elim
          (λ (n : Same s s₁ o). rw (starts-go-same t w s x xs s₁ o q (omega (arith, n.count-is))) (same P n L))
          (λ (n : New t w s s₁ o). rw (starts-go-new t w s x xs s₁ o q (omega (arith, n.count-is))) (new P n L))
          P.way)
      go None q ih = absurd (let f = run-stops t w s x xs i q in cc)

-- ---- objects in order

-- from lo on the objects of sizes xs at os, one after the other, up to hi
pub data Spaced : ℕ → List ℕ → List ℕ → ℕ → Type 0 where
  none : {lo hi : ℕ} → lo ≤ hi → Spaced lo [] [] hi
  more : {lo hi o x : ℕ} {os xs : List ℕ} → lo ≤ o → Spaced (o + x) os xs hi → Spaced lo (o ∷ os) (x ∷ xs) hi

-- how far the current block is filled
abbrev pub filled_to : State → ℕ
filled_to s = s.start + s.fill

module _ {t : Table} {w : ℕ} where
  pub spaced : {s s' : State} {xs os bs : List ℕ} → Sane t w s → Laid t w s xs os bs s'
      → Spaced (filled_to s) os xs (filled_to s')
  spaced I end = none (omega arith)
  spaced I (same P n L) = more (omega (arith, n.place)) (rw P.to (spaced P.ok L))
  spaced I (new P n L) = more (omega (arith, n.place, n.after, I.fits)) (rw P.to (spaced P.ok L))

  -- the sizes add up
  pub used-sum : {s s' : State} {xs os bs : List ℕ} → Laid t w s xs os bs s' → s'.used ≡ s.used + sum xs
  unfolding sum
  used-sum {s} end = omega arith
  used-sum (same P n L) = grind (arith, used-sum L)
  used-sum (new P n L) = grind (arith, used-sum L)

  -- the blocks add up
  pub count-starts : {s s' : State} {xs os bs : List ℕ} → Laid t w s xs os bs s' → s'.count ≡ s.count + length bs
  count-starts {s} end = omega arith
  count-starts (same P n L) = grind (arith, count-starts L)
  count-starts (new P n L) = grind (arith, count-starts L)

  -- the last block is the current one
  pub last-start : {s s' : State} {xs os bs : List ℕ} → Laid t w s xs os bs s'
      → slice_index (s.start ∷ bs) (length bs) ≡ s'.start
  last-start end = refl
  last-start (same P n L) = rw (sym n.start_is) (last-start L)
  last-start (new P n L) = last-start L

  pub still-ok : {s s' : State} {xs os bs : List ℕ} → Sane t w s → Laid t w s xs os bs s' → Sane t w s'
  still-ok I end = I
  still-ok I (same P n L) = still-ok P.ok L
  still-ok I (new P n L) = still-ok P.ok L

-- ---- blocks

-- the current block is a slot, filled past its header
pub record Block (t : Table) (w : ℕ) (s : State) : Type 0 where
  pub slot : SlotOf t s.start s.size
  pub past : direct_header t w ≤ s.fill
  pub full : s.fill ≤ s.size

-- the x bytes at o lie in the body of one of the blocks bs
pub record Held (t : Table) (w : ℕ) (bs : List ℕ) (o x : ℕ) : Type 0 where
  pub n : ℕ
  pub placed : n < length bs
  pub size : ℕ
  pub slot : SlotOf t (slice_index bs n) size
  pub from : slice_index bs n + direct_header t w ≤ o
  pub to : o + x ≤ slice_index bs n + size

module _ {t : Table} {w : ℕ} where
  pub block_same : {s s₁ : State} {x o : ℕ} → Block t w s → Placing t w s x s₁ o → Same s s₁ o → Block t w s₁
  block_same B P n = grind arith

  pub block_new : {s s₁ : State} {x o : ℕ} → Placing t w s x s₁ o → New t w s s₁ o → Block t w s₁
  block_new P n = grind arith

  pub block_last : {s s' : State} {xs os bs : List ℕ} → Block t w s → Laid t w s xs os bs s' → Block t w s'
  block_last B end = B
  block_last B (same P n L) = block_last (block_same B P n) L
  block_last B (new P n L) = block_last (block_new P n) L

  -- a block that opens begins where the one before it ends, or later
  pub later-start : {s s' : State} {xs os bs : List ℕ} → Laid t w s xs os bs s'
      → ((bs ≡ []) × (s'.start ≡ s.start)) ⊎ (block_end s ≤ s'.start)
  later-start end = inl (refl, refl)
  later-start (same P n L) = grind (arith, later-start L)
  later-start (new P n L) = grind (arith, later-start L)

  -- the x bytes at o lie in the body of the n-th of the blocks, which is the current one
  held-in : {s : State} {bs : List ℕ} {o x : ℕ} (n : ℕ) → n < length bs → slice_index bs n ≡ s.start → Block t w s
      → s.start + direct_header t w ≤ o → o + x ≤ s.start + s.size → Held t w bs o x
  held-in {s} n l is B from to =
      record { n = n; placed = l; size = s.size; slot = rw is B.slot; from = omega arith; to = omega arith }

  -- with a block more in front
  held-behind : {b o x : ℕ} {bs : List ℕ} → Held t w bs o x → Held t w (b ∷ bs) o x
  held-behind H =
      record { n = suc H.n; placed = grind arith; size = H.size; slot = H.slot; from = H.from; to = H.to }

  -- each object in a block
  held-from : {s s' : State} {xs os bs : List ℕ} → Block t w s → Laid t w s xs os bs s' → (i : ℕ) → i < length xs
      → Held t w (s.start ∷ bs) (slice_index os i) (slice_index xs i)
  held-from B end i l = absurd (omega arith)
  held-from B (same P n L) zero l = held-in 0 (omega arith) refl B (grind arith) (grind arith)
  held-from {s} B (same P n L) (suc i) l = rw (sym n.start_is) (held-from (block_same B P n) L i (omega arith))
  held-from B (new P n L) zero l = held-in 1 (omega arith) refl (block_new P n) (grind arith) (grind arith)
  held-from B (new P n L) (suc i) l = held-behind (held-from (block_new P n) L i (omega arith))

-- ---- from the first state on

-- the blocks of some objects: the last is the current one, and the only one if it begins at 0
pub record Blocks (t : Table) (w : ℕ) (bs : List ℕ) (s' : State) : Type 0 where
  pub block : Block t w s'
  pub n : ℕ
  pub many : length bs ≡ suc n
  pub counted : s'.count ≡ suc n
  pub last : slice_index bs n ≡ s'.start
  pub only : s'.start ≡ 0 → bs ≡ 0 ∷ []

-- before the first block nothing fits, so the first object opens one
not_same : (t : Table) (w : ℕ) {s₁ : State} {x o : ℕ} → Placing t w (initial t w) x s₁ o → Same (initial t w) s₁ o → ⊥
not_same t w P n = omega (arith, P.to, P.within, n.place, n.start_is, n.size_is)

module _ {t : Table} {w : ℕ} where
  -- each object lies in the body of a block that opened
  pub held : {s' : State} {xs os bs : List ℕ} → Laid t w (initial t w) xs os bs s' → (i : ℕ) → i < length xs
      → Held t w bs (slice_index os i) (slice_index xs i)
  held end i l = absurd (omega arith)
  held (same P n L) i l = absurd (not_same t w P n)
  held (new P n L) zero l = held-in 0 (omega arith) refl (block_new P n) (grind arith) (grind arith)
  held (new P n L) (suc i) l = held-from (block_new P n) L i (omega arith)

  pub blocks : {s' : State} {x : ℕ} {xs os bs : List ℕ} → Laid t w (initial t w) (x ∷ xs) os bs s' → Blocks t w bs s'
  blocks (same P n L) = absurd (not_same t w P n)
  blocks (new {bs = bs} P n L) =
      let B = block_new P n in
      record {
        block = block_last B L;
        n = length bs;
        many = refl;
        counted = grind (arith, count-starts L);
        last = last-start L;
        only = λ z. grind (arith, B, later-start L);
      }

-- ---- the fixed table

-- the blocks of the whole list, where it has an object
pub starts-some : (w : ℕ) (xs : List ℕ) → 0 < length xs
    → plan_starts fixed w xs ≡ starts_from fixed w (initial fixed w) xs
starts-some w [] l = absurd (omega arith)
starts-some w (x ∷ xs) l = refl

pub ran-ok : (w : ℕ) → Sane fixed w (initial fixed w)
ran-ok w = ok-initial fixed w (omega arith)

-- a whole run that ends well
pub ran-laid : (w : ℕ) (xs : List ℕ) (s : State) → run fixed w xs ≡ Ok s
    → Laid fixed w (initial fixed w) xs (plan_offsets fixed w xs) (starts_from fixed w (initial fixed w) xs) s
ran-laid w xs s e = laid fixed (omega arith) (omega arith) w xs (initial fixed w) 0 s (ran-ok w) e
