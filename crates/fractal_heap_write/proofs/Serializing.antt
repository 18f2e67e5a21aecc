-- What is known where the writer accepts: the plan and its region fit into what is lent.
use Rattle.std.proofs.Common.{inl, inr, ℕ, suc, ◌+◌, ◌-◌, ◌^◌, ◌≤◌, max, ◌≡◌, refl, sym, ap, ◌∙◌, subst, ⊎_elim, List}
use Rattle.std.proofs.Common.{◌++◌}
use Rattle.std.proofs.Common.{arith, length, take, drop, length-append, pow_mono, take_at, length-take-le}
use Rattle.std.proofs.lemmas.Bool.{cases_lt}
use Rattle.fields.specs.LittleEndian.{put}
use Rattle.fields.proofs.LittleEndian.{put_front}
use Rattle.fields.proofs.Widths.{legal-small}
use Rattle.numbers.specs.Sums.{sum}
use Rattle.table.specs.Table.{fixed, row_offset, max_rows}
use Rattle.table.specs.Sizes.{max_managed}
use Rattle.planner.specs.Steps.{plan_starts}
use Rattle.planner.specs.Requires.{Small, Runs}
use Rattle.plan.proofs.Checking.{Passing, all_small}
use Rattle.plan.specs.declared.ManagedPlan.{ManagedPlan}
use Rattle.plan.proofs.Answering.{Went, accepted}
use Rattle.plan.proofs.Tally.{tallied}
use Rattle.plan.proofs.Root.{Bare, Rowed, shape}
use Rattle.region_blocks.specs.declared.Site.{Site}
use Rattle.region_write.specs.Region.{region}
use Rattle.region_write.specs.Requires.{Rooted, Writable}
use Rattle.region_write.proofs.Indirect.{indirect-planned}
use Rattle.region_write.proofs.Region.{indirect-bytes, indirects-planned, region-length}
use Rattle.fractal_heap_write.specs.declared.checks.Lent.{Lent}
use Rattle.fractal_heap_write.specs.Answer.{Accepted}
use Rattle.fractal_heap_write.proofs.Answering.{below-undefined}

-- as many rows as the heap space has
rows_few : (n : ℕ) → row_offset fixed (suc n) ≤ 2 ^ fixed.heap_bits → suc n ≤ max_rows fixed
rows_few n l =
    elim (cases_lt 28 n) [
      | inl many ↦ absurd (omega (arith, pow_mono {i = 41} {j = 12 + n} (omega arith)))
      | inr few ↦ omega arith
    ]

front_of : (new old : List ℕ) → take (length new) (put old 0 new) ≡ new
front_of new old = ap (take (length new)) (put_front old new) ∙ take_at new (drop (length new) old) (length new) refl

front_length : (new old : List ℕ) → length new ≤ length (put old 0 new)
front_length new old = let z = ap length (put_front old new) ∙ length-append new (drop (length new) old) in omega arith

module _ {xs : List ℕ} {lent : Lent} {site : Site} {p : ManagedPlan} (A : Accepted xs lent site p) where
  -- ---- the plan

  passes : Passing xs lent.offset_places lent.block_places site.offset_size
  passes = (accepted xs lent.offset_places lent.block_places site.offset_size p A.planned).0

  went : Went site.offset_size xs p
  went = (accepted xs lent.offset_places lent.block_places site.offset_size p A.planned).1

  pub sizes-small : Small (max_managed fixed site.offset_size) xs
  sizes-small = record { small = all_small (max_managed fixed site.offset_size) 0 xs passes.sizes }

  runs : Runs site.offset_size xs
  runs = record { last = went.state; is = went.ran }

  -- the places that the lists have
  pub offsets_fit : length xs ≤ lent.offset_places
  offsets_fit = passes.offsets

  pub blocks_fit : max 1 (length xs) ≤ lent.block_places
  blocks_fit = passes.blocks

  pub region_fits : p.region_size ≤ lent.region_bytes
  region_fits = A.fit.room

  pub space_within : p.allocated_space ≤ p.region_size
  space_within = let z = indirect-bytes xs lent.offset_places lent.block_places site.offset_size p A.planned 0 in
      omega arith

  few : p.root_rows ≤ max_rows fixed
  few = ⊎_elim
      (λ (B : Bare site.offset_size xs p went.state). omega (arith, B.rows))
      (λ (R : Rowed site.offset_size xs p went.state). omega (arith, R.rows, rows_few R.n R.heap))
      (shape site.offset_size xs p (legal-small site.offset_size passes.width) went)

  -- ---- the starts that the list of blocks holds then

  module _ (bs bs' : List ℕ) (f : bs' ≡ put bs 0 (plan_starts fixed site.offset_size xs)) where
    pub count_fits : p.block_count ≤ length bs'
    count_fits =
        let c = (tallied xs lent.offset_places lent.block_places site.offset_size p A.planned).blocks in
        let l = front_length (plan_starts fixed site.offset_size xs) bs in
        let z = ap length f in
        omega arith

    starts-there : take p.block_count bs' ≡ plan_starts fixed site.offset_size xs
    starts-there =
        ap (take p.block_count) f
        ∙ ap (λ (n : ℕ). take n (put bs 0 (plan_starts fixed site.offset_size xs)))
        (tallied xs lent.offset_places lent.block_places site.offset_size p A.planned).blocks
        ∙ front_of (plan_starts fixed site.offset_size xs) bs

  -- ---- the region in what is lent

  abbrev size : ℕ
  size = p.region_size - p.allocated_space

  module _ (r : List ℕ) (long : length r ≡ p.region_size) where
    rooted : Rooted site (plan_starts fixed site.offset_size xs) r p.root_rows size
    rooted =
        let w = site.offset_size in
        let h = site.heap_header_address in
        let a = site.region_address in
        let i = indirects-planned xs lent.offset_places lent.block_places w p A.planned h a (a + size) in
        let s = space_within in
        let u = below-undefined w (a + p.region_size) passes.width A.fit.end in
        record {
          narrow = legal-small w passes.width;
          rows_of_root = few;
          room = omega arith;
          directs_in_region = omega arith;
          addresses_fit = omega arith;
          next_fits =
              λ l. (let m =
              (indirect-planned xs lent.offset_places lent.block_places w p A.planned l h a (a + size)).next in
              omega arith);
        }

    starts-writable : (js : List ℕ) → sum xs ≡ length js
        → Writable site xs (plan_starts fixed site.offset_size xs) js r p.root_rows size
    starts-writable js j =
        let w = site.offset_size in
        let h = site.heap_header_address in
        let a = site.region_address in
        let i = indirect-bytes xs lent.offset_places lent.block_places w p A.planned h in
        let k = indirects-planned xs lent.offset_places lent.block_places w p A.planned h a (a + size) in
        record {
          rooted = rooted;
          starts-are = refl;
          size_is = omega arith;
          indirects_fill = omega arith;
          small = sizes-small;
          runs = runs;
          joined = sym j;
          fills = long ∙ sym (region-length xs lent.offset_places lent.block_places w p A.planned h a js);
        }

  pub writable : (js r bs bs' : List ℕ) → lent.object_bytes ≡ length js → lent.region_bytes ≡ length r
      → bs' ≡ put bs 0 (plan_starts fixed site.offset_size xs)
      → Writable site xs (take p.block_count bs') js (take p.region_size r) p.root_rows size
  writable js r bs bs' j l f =
      let n : p.region_size ≤ length r = omega (arith, region_fits) in
      subst (λ (y : List ℕ). Writable site xs y js (take p.region_size r) p.root_rows size)
      (sym (starts-there bs bs' f))
      (starts-writable (take p.region_size r) (length-take-le p.region_size r n) js (A.fit.bytes ∙ j))

  -- the bytes behind the region are as they were
  pub behind-kept : (js r l : List ℕ) → l ≡ region site p.root_rows xs js
      → l ++ drop p.region_size r ≡ put r 0 (region site p.root_rows xs js)
  behind-kept js r l f =
      ap (λ (y : List ℕ). y ++ drop p.region_size r) f
      ∙ ap (λ (n : ℕ). region site p.root_rows xs js ++ drop n r)
      (sym (region-length xs lent.offset_places lent.block_places site.offset_size p A.planned
      site.heap_header_address site.region_address js))
      ∙ sym (put_front r (region site p.root_rows xs js))
