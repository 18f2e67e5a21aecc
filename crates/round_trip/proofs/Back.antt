-- Whatever the writer accepts comes back, all of it: the count of what comes back is that of the nonempty objects.
use Rattle.std.proofs.Common.{◌≡◌, ℕ, suc, ◌+◌, ◌-◌, ◌^◌, ◌<◌, ◌≤◌, Bool, true, false, List, [], ◌∷◌, ◌++◌, length}
use Rattle.std.proofs.Common.{take, drop}
use Rattle.std.proofs.Common.{slice_index, nat_lt, refl, sym, ap, ap₂, ◌∙◌, subst, arith, length-append, length-drop}
use Rattle.std.proofs.Common.{drop-drop}
use Rattle.std.proofs.Math.Decide.{ℕ_discrete, dec_le}
use Rattle.std.proofs.Math.ListN.{get_or-append}
use Rattle.std.proofs.lemmas.Bool.Decides.{nat_tests}
use Rattle.std.proofs.lemmas.Slice.Eq.{bytes_eq-Decides}
use Rattle.table.specs.Table.{fixed}
use Rattle.numbers.specs.Sums.{sum, bit}
use Rattle.planner.specs.Steps.{plan_offsets}
use Rattle.fields.specs.LittleEndian.{put}
use Rattle.fields.proofs.LittleEndian.{put_front, put-here}
use Rattle.plan.specs.declared.ManagedPlan.{ManagedPlan}
use Rattle.plan.proofs.Tally.{tallied}
use Rattle.region_write.proofs.Indirect.{rooted, region-planned, bare-planned}
use Rattle.region_write.specs.Region.{region}
use Rattle.region_write.proofs.Region.{region-length}
use Rattle.fractal_heap_write.proofs.Answering.{below-undefined}
use Rattle.fractal_heap.specs.declared.header.FractalHeapHeader.{FractalHeapHeader}
use Rattle.round_trip.specs.Backs.{comes_back, returned_count}
use Rattle.round_trip.specs.RoundTrip.{nonempty_count}
use Rattle.heap_kept.specs.HeapKept.{Call, WriterAccepts, HoldsRegion, IsHeaderOf, ObjectIsManaged, ComesBack, part_of}
use Rattle.heap_kept.proofs.FromRoot.{planned, tests, width-legal}
use Rattle.heap_kept.proofs.Theorem.{heap-kept}

module _ (h : FractalHeapHeader) (F : List ℕ) (w : ℕ) where
  -- ---- one object

  came : {o x : ℕ} {bs : List ℕ} → 0 < x → ComesBack F h w o x bs → comes_back h F w o x bs ≡ true
  came {bs = bs} s C = rw
      (C.id_accepted 8 (omega arith), C.reader_accepts, C.bytes_there, (bytes_eq-Decides bs bs).1 refl)
      (grind (arith, nat_tests))

  empty : (o x : ℕ) (bs : List ℕ) → x ≡ 0 → comes_back h F w o x bs ≡ false
  empty o x bs e = grind (arith, nat_tests)

  -- the first of several
  first_back : (o y : ℕ) (ks : List ℕ) → (0 < y → ComesBack F h w o y (take y ks))
      → comes_back h F w o y (take y ks) ≡ nat_lt 0 y
  first_back o y ks C = go (ℕ_discrete y 0)
    where
      go : Dec (y ≡ 0) → comes_back h F w o y (take y ks) ≡ nat_lt 0 y
      go (yes e) = let b = empty o y (take y ks) e in grind (arith, nat_tests)
      go (no e) = let b = came (omega arith) (C (omega arith)) in grind (arith, nat_tests)

  -- and those after it
  part-next : (y : ℕ) (ys ks : List ℕ) (n : ℕ) → part_of (y ∷ ys) ks (suc n) ≡ part_of ys (drop y ks) n
  unfolding sum
  part-next y ys ks n = ap (take (slice_index ys n)) (sym (drop-drop (sum (take n ys)) y ks))

  -- ---- all of them

  -- by these heap offsets each nonempty object comes back
  abbrev AllComeBack : List ℕ → List ℕ → List ℕ → Type 0
  AllComeBack ys os ks = (n : ℕ) → n < length ys → 0 < slice_index ys n
      → ComesBack F h w (slice_index os n) (slice_index ys n) (part_of ys ks n)

  all_back : (ys os ks : List ℕ) → length ys ≤ length os → AllComeBack ys os ks
      → returned_count h F w ys os ks ≡ nonempty_count ys
  unfolding returned_count nonempty_count sum
  all_back [] os ks l C = refl
  all_back (y ∷ ys) [] ks l C = absurd (omega arith)
  all_back (y ∷ ys) (o ∷ os) ks l C =
      ap₂ (λ (a : Bool) (b : ℕ). bit a + b) (first_back o y ks (C 0 (omega arith)))
      (all_back ys os (drop y ks) (omega arith)
      (λ n m s. subst (ComesBack F h w (slice_index os n) (slice_index ys n)) (part-next y ys ks n)
      (C (suc n) (omega arith) s)))

-- ---- a call of the writer

module _ {c : Call} {p : ManagedPlan} (W : WriterAccepts c p) where
  abbrev xs : List ℕ
  xs = c.sizes

  abbrev w : ℕ
  w = c.site.offset_size

  abbrev address : ℕ
  address = c.site.region_address

  -- by the offsets that it leaves all nonempty objects come back
  pub written_back : {F : List ℕ} {h : FractalHeapHeader} → HoldsRegion F c p → IsHeaderOf h c p
      → ((i : ℕ) → i < length c.sizes → ObjectIsManaged h c i) → (old : List ℕ)
      → returned_count h F w xs (put old 0 (plan_offsets fixed w xs)) c.objects ≡ nonempty_count xs
  written_back {F} {h} H T managed old =
      let os : List ℕ = plan_offsets fixed w xs in
      let n : length os ≡ length xs = (tallied xs c.offset_places c.block_places w p (planned W)).offsets in
      let m = length-append os (drop (length os) old) in
      ap (λ (v : List ℕ). returned_count h F w xs v c.objects) (put_front old os)
      ∙ all_back h F w xs (os ++ drop (length os) old) c.objects (omega arith)
      (λ i l s. subst (λ (o : ℕ). ComesBack F h w o (slice_index xs i) (part_of xs c.objects i))
      (sym (get_or-append os (drop (length os) old) 0 i (omega arith)))
      (heap-kept.comes_back c p W F H h T i l s (managed i l)))

  -- the root stands in the region
  root-inside : p.root_place ≤ p.region_size
  root-inside = go (ℕ_discrete p.root_rows 0)
    where
      go : Dec (p.root_rows ≡ 0) → p.root_place ≤ p.region_size
      go (yes z) = let e = (bare-planned xs c.offset_places c.block_places w p (planned W) z).place in omega arith
      go (no z) = let e = region-planned xs c.offset_places c.block_places w p (planned W) (omega arith) in omega arith

  pub root-fits : address + p.root_place < 2 ^ 64
  root-fits =
      let a = root-inside in
      let e = (tests W).end in
      below-undefined w (address + p.root_place) (width-legal W) (omega arith)

  pub rows_fit : p.root_rows < 2 ^ 16
  rows_fit = go (ℕ_discrete p.root_rows 0)
    where
      go : Dec (p.root_rows ≡ 0) → p.root_rows < 2 ^ 16
      go (yes z) = omega arith
      go (no z) = let e = (rooted xs c.offset_places c.block_places w p (planned W) (omega arith)).few in omega arith

  -- the region is put into a file at its address
  pub holds-there : (F : List ℕ) → c.region_bytes ≡ length (drop address F)
      → HoldsRegion (put F address (region c.site p.root_rows xs c.objects)) c p
  holds-there F e = record { region_there = go (dec_le address (length F)) }
    where
      R : List ℕ
      R = region c.site p.root_rows xs c.objects

      size : length R ≡ p.region_size
      size = region-length xs c.offset_places c.block_places w p (planned W) c.site.heap_header_address address
          c.objects

      room : p.region_size ≤ length F - address
      room = omega (arith, (tests W).room, e, length-drop address F)

      go : Dec (address ≤ length F) → take p.region_size (drop address (put F address R)) ≡ R
      go (yes l) = ap (λ (n : ℕ). take n (drop address (put F address R))) (sym size)
          ∙ put-here F address R (omega (arith, room, size, l))
      go (no l) = none p.region_size R (omega (arith, room, l)) (omega (arith, size, room, l))
        where
          none : (n : ℕ) (bs : List ℕ) → n ≡ 0 → length bs ≡ 0 → take n (drop address (put F address R)) ≡ bs
          none n [] z k = rw z refl
          none n (b ∷ bs) z k = absurd (omega (arith, k))
