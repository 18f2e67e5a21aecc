-- Every object comes back, and what it means for an ID that was given early.
use Rattle.std.proofs.Common.{◌≡◌, ℕ, ◌+◌, ◌-◌, ◌^◌, ◌<◌, ◌≤◌, max, List, length, take, drop, slice_index, Ok, refl}
use Rattle.std.proofs.Common.{sym, ap, ap₂, ◌∙◌, subst, arith, take-take}
use Rattle.std.proofs.Common.{get_or-take}
use Rattle.std.proofs.Math.Decide.{ℕ_discrete}
use Rattle.std.proofs.lemmas.List.{drop-take}
use Rattle.std.proofs.lemmas.Bool.Decides.{nat_tests}
use Rattle.std.proofs.lemmas.Grind.{common_steps}
use Rattle.table.specs.Table.{fixed}
use Rattle.table.specs.Slots.{slot_at}
use Rattle.table.specs.Sizes.{max_managed}
use Rattle.numbers.specs.Sums.{sum}
use Rattle.numbers.proofs.Sums.{sum-take-suc, sum-take-le}
use Rattle.table_laws.proofs.Format.{direct-local, fixed-slot}
use Rattle.planner.specs.Steps.{plan_offsets}
use Rattle.plan.specs.declared.ManagedPlan.{ManagedPlan}
use Rattle.plan.proofs.Checking.{all_small}
use Rattle.plan.specs.Plans.{InPlacedBlock, object_start}
use Rattle.plan.proofs.Front.{front-part}
use Rattle.plan.proofs.Kept.{plan-kept}
use Rattle.region_directs.proofs.Objects.{objects-at}
use Rattle.reading.specs.Walk.{Taking, unchecked, root_by, direct_at}
use Rattle.fractal_heap.specs.declared.header.FractalHeapHeader.{FractalHeapHeader}
use Rattle.fractal_heap.specs.Read.{root_at, managed_by, managed_unchecked}
use Rattle.ids.specs.Written.{managed_id, IsManaged}
use Rattle.heap_kept.proofs.Holding.{has_part}
use Rattle.heap_kept.specs.HeapKept.{Call, WriterAccepts, HoldsRegion, IsHeaderOf, object_id, ComesBack, part_of}
use Rattle.heap_kept.specs.HeapKept.{ObjectIsManaged, HeapKept, EarlyIdsHold}
use Rattle.ids.proofs.ReadBack.{decodes}
use Rattle.heap_kept.proofs.Ids.{id-passes}
use Rattle.heap_kept.proofs.FromRoot.{planned, tests, went, block_of, start, place_of, place-fits, bytes_of}
use Rattle.heap_kept.proofs.FromRoot.{bytes-least, block-has, block_inside, root-finds}

-- ---- the reader by an ID

-- by a written ID the reader looks for what it was written for, however blocks are taken
pub sought : {h : FractalHeapHeader} {c : Call} {p : ManagedPlan} → IsHeaderOf h c p
    → (taking : (target len : ℕ) → Taking) (F : List ℕ) (w o x : ℕ) → o < 2 ^ 40 → x < 2 ^ 16
    → IsManaged x h.max_managed_object_size
    → managed_by taking h F (managed_id fixed o x) w
    ≡ root_by (taking o x) h.table F h.root_block_address h.current_rows_in_root_indirect_block o x w
sought {h = h} T taking F w o x lo hi m =
    let d = decodes o x lo hi h.table h.max_managed_object_size T.fixed_geometry m in
    let z = T.unfiltered in
    grind (arith, common_steps)

pub by-id : {h : FractalHeapHeader} {c : Call} {p : ManagedPlan} → IsHeaderOf h c p → (F : List ℕ) (w o x : ℕ)
    → o < 2 ^ 40 → x < 2 ^ 16 → IsManaged x h.max_managed_object_size
    → managed_unchecked h F (managed_id fixed o x) w ≡ root_at h F o x w
by-id T F w o x lo hi m = sought T (unchecked F) F w o x lo hi m

-- len bytes in a block that the file holds
pub in_block : (F : List ℕ) (a b t len : ℕ) → a + (t - b) ≤ 2 ^ 64 - 1 → a + (t - b) + len ≤ length F
    → direct_at F a b t len ≡ Ok (record { position = a + (t - b); length = len })
in_block F a b t len u v = grind (arith, nat_tests)

-- ---- an object

module _ {c : Call} {p : ManagedPlan} (W : WriterAccepts c p) {F : List ℕ} (H : HoldsRegion F c p)
    {h : FractalHeapHeader} (T : IsHeaderOf h c p) {i : ℕ} (l : i < length c.sizes) where
  abbrev xs : List ℕ
  xs = c.sizes

  abbrev js : List ℕ
  js = c.objects

  abbrev w : ℕ
  w = c.site.offset_size

  abbrev offset : ℕ
  offset = object_start w xs i

  abbrev size : ℕ
  size = slice_index xs i

  -- the block that it lies in
  pub B : InPlacedBlock w xs i
  B = block_of W i l

  abbrev its : ℕ
  its = start W B.n B.placed

  abbrev place : ℕ
  place = place_of W B.n B.placed

  pub slot-size : B.size ≡ (slot_at fixed its).size
  slot-size = (fixed-slot B.slot).size_is

  pub size_small : size < 2 ^ 16
  size_small = let z = all_small (max_managed fixed w) 0 xs (went W).0.sizes i l in omega arith

  -- where its offset lies in the block, and so not at the block's end
  module _ (u : offset < its + B.size) where
    pub offset-small : offset < 2 ^ 40
    offset-small = let z = (direct-local fixed (omega arith) (omega arith) B.slot).inside in omega arith

    read : root_at h F offset size w ≡ Ok (record { position = place + (offset - its); length = size })
    read =
        let f = B.past_header in
        let t = B.ends_inside in
        let z = slot-size in
        let r = place-fits W B.n B.placed in
        let k = block_inside W B.n B.placed H in
        root-finds W B.n B.placed H T offset size (omega arith) (omega arith)
        ∙ in_block F place its offset size (omega arith) (omega arith)

    pub bytes : take size (drop (place + (offset - its)) F) ≡ part_of xs js i
    bytes = go (ℕ_discrete size 0)
      where
        from_block : take size (drop (place + (offset - its)) F)
            ≡ take size (drop (offset - its) (bytes_of W B.n B.placed))
        from_block =
            let f = B.past_header in
            let t = B.ends_inside in
            let z = slot-size in
            let m = bytes-least W B.n B.placed in
            has_part F place (bytes_of W B.n B.placed) (offset - its) size (block-has W B.n B.placed H) (omega arith)

        go : Dec (size ≡ 0) → take size (drop (place + (offset - its)) F) ≡ take size (drop (sum (take i xs)) js)
        go (yes e) = ap (λ (n : ℕ). take n (drop (place + (offset - its)) F)) e
            ∙ sym (ap (λ (n : ℕ). take n (drop (sum (take i xs)) js)) e)
        go (no e) =
            let G = (went W).1 in
            let S = fixed-slot B.slot in
            let f = B.past_header in
            let z = slot-size in
            from_block
            ∙ objects-at fixed (omega arith) (omega arith) w xs js (sym (tests W).bytes) G.state G.ran
            c.site.heap_header_address its (slot_at fixed its).size i l (omega arith)
            (record { starts = S.starts; inside = S.inside; size_is = refl }) (omega arith) (omega arith)

    back : ObjectIsManaged h c i → ComesBack F h w offset size (part_of xs js i)
    back m =
        record {
          id_accepted = id-passes offset size offset-small size_small;
          position = place + (offset - its);
          reader_accepts = by-id T F w offset size offset-small size_small m ∙ read;
          bytes_there = bytes;
        }

  -- every nonempty object comes back
  pub nonempty-back : 0 < size → ObjectIsManaged h c i → ComesBack F h w offset size (part_of xs js i)
  nonempty-back s m = back (let t = B.ends_inside in omega arith) m

-- ---- the theorem

pub heap-kept : HeapKept
heap-kept = record { kept_apart = plan-kept; comes_back = λ c p W F H h T i l s m. nonempty-back W H T l s m }

-- ---- an ID that was given early

-- an object's part of the joined bytes is among those of any longer run
part-early : (xs js : List ℕ) (k i : ℕ) → i < k → i < length xs
    → part_of (take k xs) (take (sum (take k xs)) js) i ≡ part_of xs js i
part-early xs js k i l m =
    let s : ℕ = sum (take i xs) in
    let r : ℕ = sum (take k xs) - s in
    let x : slice_index (take k xs) i ≡ slice_index xs i = get_or-take k xs i 0 l in
    let f : sum (take i (take k xs)) ≡ s = ap sum (take-take i k xs (omega arith)) in
    let a = sum-take-suc xs i m in
    let c = sum-take-le xs (i + 1) k (omega arith) in
    let all : sum (take k xs) ≡ s + r = omega arith in
    ap₂ (λ (u v : ℕ). take u (drop v (take (sum (take k xs)) js))) x f
    ∙ ap (λ (n : ℕ). take (slice_index xs i) (drop s (take n js))) all
    ∙ ap (take (slice_index xs i)) (drop-take s r js)
    ∙ take-take (slice_index xs i) r (drop s js) (omega arith)

module _ {c : Call} {p : ManagedPlan} (W : WriterAccepts c p) (early i : ℕ) (l : i < early)
    (m : i < length c.sizes) where
  size-stays : slice_index (take early c.sizes) i ≡ slice_index c.sizes i
  size-stays = get_or-take early c.sizes i 0 l

  offset-stays : object_start c.site.offset_size (take early c.sizes) i ≡ object_start c.site.offset_size c.sizes i
  offset-stays =
      let w : ℕ = c.site.offset_size in
      let k = length (take early c.sizes) in
      let F = front-part c.sizes c.offset_places c.block_places w p (planned W) early k (max 1 k) (omega arith)
      (omega arith) in
      ap (λ (v : List ℕ). slice_index v i) F.same_offsets ∙ get_or-take early (plan_offsets fixed w c.sizes) i 0 l

  -- an ID given when there were the first objects alone is the object's ID among all
  pub early-id-stays :
      object_id c.site.offset_size (take early c.sizes) i ≡ object_id c.site.offset_size c.sizes i
  early-id-stays = ap₂ (managed_id fixed) offset-stays size-stays

-- and reads the same bytes there
pub early-id-holds : EarlyIdsHold
early-id-holds c p W file H h T early i l m s =
    let w : ℕ = c.site.offset_size in
    let xs : List ℕ = c.sizes in
    record {
      id_stays = early-id-stays W early i l m;
      comes_back = λ managed. subst
          (ComesBack file h w (object_start w (take early xs) i) (slice_index (take early xs) i))
          (sym (part-early xs c.objects early i l m))
          (rw (offset-stays W early i l m, size-stays W early i l m) (nonempty-back W H T m s managed));
    }
