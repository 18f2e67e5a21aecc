-- An empty object: where the reader finds it, and where it answers 1.
use Rattle.std.proofs.Common.{◌≡◌, ℕ, suc, ◌+◌, ◌-◌, ◌^◌, ◌<◌, ◌≤◌, ◌⊎◌, inl, inr, List, [], ◌∷◌, length, slice_index}
use Rattle.std.proofs.Common.{Ok, Err, ap, ◌∙◌, arith}
use Rattle.std.proofs.Math.Decide.{ℕ_discrete, dec_le, dec_lt}
use Rattle.std.proofs.lemmas.Bool.Decides.{nat_tests}
use Rattle.refusals.specs.declared.FormatError.TheVariants.{UnexpectedEof, HeapIdTooLarge}
use Rattle.table.specs.Table.{Table, fixed}
use Rattle.table.specs.Slots.{slot_at}
use Rattle.table_laws.proofs.Format.{direct-local, fixed-slot}
use Rattle.plan.specs.declared.ManagedPlan.{ManagedPlan}
use Rattle.plan.specs.Plans.{object_start}
use Rattle.numbers.proofs.Saturating.{sat-fits}
use Rattle.reading.specs.Walk.{direct_at}
use Rattle.fractal_heap.specs.declared.header.FractalHeapHeader.{FractalHeapHeader}
use Rattle.fractal_heap.specs.Read.{root_at, managed_unchecked}
use Rattle.ids.specs.Checks.{id_checked}
use Rattle.ids.specs.Written.{managed_id}
use Rattle.heap_kept.specs.HeapKept.{Call, WriterAccepts, HoldsRegion, IsHeaderOf, EmptyRead, accepts}
use Rattle.heap_kept.specs.HeapKept.{refuses, EmptyObjectsAnswered}
use Rattle.heap_kept.proofs.Ids.{id-passes}
use Rattle.heap_kept.proofs.FromRoot.{starts, block_of, start, place_of, place-fits, block_inside, by_bare}
use Rattle.heap_kept.proofs.FromRoot.{by-missing, root-finds}
use Rattle.heap_kept.proofs.Theorem.{by-id, in_block}
use Rattle.heap_kept.specs.Walking.{NoneHolds, no_block, not_in_first}

-- the n-th of the blocks ss holds x
record Holder (t : Table) (x : ℕ) (ss : List ℕ) : Type 0 where
  n : ℕ
  placed : n < length ss
  from : slice_index ss n ≤ x
  to : x < slice_index ss n + (slot_at t (slice_index ss n)).size

-- one of them does, or none
holder : (t : Table) (x : ℕ) (ss : List ℕ) → Holder t x ss ⊎ NoneHolds t x ss
holder t x [] = inr no_block
holder t x (s ∷ ss) = go (dec_le s x) (dec_lt x (s + (slot_at t s).size)) (holder t x ss)
  where
    go : Dec (s ≤ x) → Dec (x < s + (slot_at t s).size) → Holder t x ss ⊎ NoneHolds t x ss
        → Holder t x (s ∷ ss) ⊎ NoneHolds t x (s ∷ ss)
    go (yes l) (yes u) r = inl (record { n = 0; placed = omega arith; from = l; to = u })
    go l (no u) (inl H) =
        inl (record { n = suc H.n; placed = (let p = H.placed in omega arith); from = H.from; to = H.to })
    go l (no u) (inr C) = inr (not_in_first {start = s} (λ _. omega arith) C)
    go (no l) (yes u) (inl H) =
        inl (record { n = suc H.n; placed = (let p = H.placed in omega arith); from = H.from; to = H.to })
    go (no l) (yes u) (inr C) = inr (not_in_first (λ k. absurd (l k)) C)

-- at the heap's end there is no ID
no-id : (o : ℕ) → o ≡ 2 ^ 40 → (lent : ℕ) → id_checked fixed o 0 lent ≡ Err (HeapIdTooLarge o 0)
no-id o e lent = grind (arith, nat_tests)

module _ {c : Call} {p : ManagedPlan} (W : WriterAccepts c p) {F : List ℕ} (H : HoldsRegion F c p)
    {h : FractalHeapHeader} (T : IsHeaderOf h c p) (x : ℕ) where
  abbrev w : ℕ
  w = c.site.offset_size

  abbrev its : (n : ℕ) → n < length (starts W) → ℕ
  its n l = start W n l

  abbrev place : (n : ℕ) → n < length (starts W) → ℕ
  place n l = place_of W n l

  -- what is read of the n-th block, as far as its end
  module _ (n : ℕ) (l : n < length (starts W)) (hi : x ≤ its n l + (slot_at fixed (its n l)).size) where
    in-file : place n l + (x - its n l) ≤ length F
    in-file = let k = block_inside W n l H in omega arith

    nothing_read : direct_at F (place n l) (its n l) x 0
        ≡ Ok (record { position = place n l + (x - its n l); length = 0 })
    nothing_read =
        let f = in-file in
        let r = place-fits W n l in
        in_block F (place n l) (its n l) x 0 (omega arith) (omega arith)

    found-there : x < 2 ^ 40 → root_at h F x 0 w ≡ direct_at F (place n l) (its n l) x 0 → EmptyRead F h w x p.root_rows
    found-there s e =
        accepts (place n l + (x - its n l)) in-file
        (by-id T F w x 0 s (omega arith) (omega arith) ∙ e ∙ nothing_read)

  -- where no placed block holds the offset, and the root has rows
  pub missed-there : (n : ℕ) → n < length (starts W) → 0 < p.root_rows → NoneHolds fixed x (starts W) → x < 2 ^ 40
      → managed_unchecked h F (managed_id fixed x 0) w ≡ Err (UnexpectedEof x (length F))
  missed-there n l r C s =
      by-id T F w x 0 s (omega arith) (omega arith) ∙ by-missing W n l H T x 0 r C
      ∙ ap (λ (y : ℕ). Err (UnexpectedEof y (length F))) (sat-fits (x + 0) (omega arith)
      ∙ (let e : x + 0 ≡ x = omega arith in e))

  -- at an offset that lies at or before the end of the n-th block
  read-empty : (n : ℕ) (l : n < length (starts W)) → x ≤ its n l + (slot_at fixed (its n l)).size → x < 2 ^ 40
      → EmptyRead F h w x p.root_rows
  read-empty n l hi s = go (ℕ_discrete p.root_rows 0) (holder fixed x (starts W))
    where
      go : Dec (p.root_rows ≡ 0) → Holder fixed x (starts W) ⊎ NoneHolds fixed x (starts W)
          → EmptyRead F h w x p.root_rows
      go (yes z) k = found-there n l hi s (by_bare W n l H T x 0 z)
      go (no z) (inl K) =
          let u = K.to in
          found-there K.n K.placed (omega arith) s (root-finds W K.n K.placed H T x 0 K.from K.to)
      go (no z) (inr C) = refuses (omega arith) (missed-there n l (omega arith) C s)

-- every empty object
pub empty-answered : EmptyObjectsAnswered
empty-answered c p W file H h T i l e =
    let x = object_start c.site.offset_size c.sizes i in
    let B = block_of W i l in
    let z = (fixed-slot B.slot).size_is in
    let t = B.ends_inside in
    let d = (direct-local fixed (omega arith) (omega arith) B.slot).inside in
    record {
      offset_in_heap = omega arith;
      id_accepted = λ s lent k. id-passes x 0 s (omega arith) lent k;
      id_refused = λ s lent. no-id x s lent;
      reader_answers = λ s. read-empty W H T x B.n B.placed (omega arith) s;
    }
