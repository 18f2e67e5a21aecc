-- In a file that holds a written region, the reader comes from the root to the block of an object.
use Rattle.std.proofs.Common.{◌≡◌, ℕ, zero, suc, ◌+◌, ◌-◌, ◌*◌, ◌^◌, ◌<◌, ◌≤◌, true, List, [], ◌∷◌, ◌++◌, length}
use Rattle.std.proofs.Common.{take, drop, slice_index, Result, Ok, refl, sym, ap, ◌∙◌, subst, arith}
use Rattle.std.proofs.Common.{length-append, pow_mono}
use Rattle.std.proofs.Math.Decide.{ℕ_discrete}
use Rattle.std.proofs.lemmas.Grind.{common_steps}
use Rattle.fields.specs.Widths.{legal}
use Rattle.fields.proofs.Widths.{legal-small}
use Rattle.table.specs.Table.{fixed, row_offset}
use Rattle.table.specs.Slots.{slot_at}
use Rattle.numbers.specs.Sums.{sum}
use Rattle.table.proofs.Rows.{row-mono}
use Rattle.table.proofs.Slots.{slot-some}
use Rattle.table_laws.proofs.Format.{fixed-slot}
use Rattle.planner.specs.Steps.{plan_offsets, plan_starts}
use Rattle.plan.specs.declared.ManagedPlan.{ManagedPlan}
use Rattle.plan.specs.Answer.{planned_for}
use Rattle.plan.proofs.Checking.{Passing}
use Rattle.plan.proofs.Answering.{Went, accepted}
use Rattle.plan.specs.Plans.{sizes_at, InPlacedBlock}
use Rattle.plan.proofs.Objects.{in-one-body}
use Rattle.plan.proofs.Root.{no-root-rows}
use Rattle.plan.proofs.Tally.{tallied}
use Rattle.region_indirects.specs.Walk.{all_slots, block}
use Rattle.region_directs.specs.Directs.{objects_in, directs}
use Rattle.region_write.proofs.Starts.{Placed, none, more, before, from, before-none, nth-from, end-reached}
use Rattle.region_write.proofs.Starts.{size-within}
use Rattle.region_write.proofs.Geometry.{BlockAt, root-block}
use Rattle.region_write.proofs.Indirect.{rooted, indirect-planned, bare-planned}
use Rattle.region_write.specs.Region.{indirects, indirect_bytes, region}
use Rattle.region_write.proofs.Root.{indirects-some}
use Rattle.region_write.proofs.Region.{indirect-bytes, indirects-planned, region-length}
use Rattle.fractal_heap_write.specs.Checks.{Fit}
use Rattle.fractal_heap_write.proofs.Answering.{written, fit}
use Rattle.fields.specs.declared.place.Place.{Place}
use Rattle.refusals.specs.declared.FormatError.{FormatError}
use Rattle.reading.specs.Walk.{Taking, unchecked, direct_at, walk_by, root_by}
use Rattle.fractal_heap.specs.declared.header.FractalHeapHeader.{FractalHeapHeader}
use Rattle.fractal_heap.specs.Read.{root_at}
use Rattle.heap_kept.specs.Walking.{HasBytes, GivesRows, IsToCome, NoneHolds, missed, Opens, Doubles}
use Rattle.heap_kept.proofs.Holding.{has_some, has_left, has_right}
use Rattle.heap_kept.proofs.Agreeing.{numbers_of, agrees}
use Rattle.heap_kept.proofs.Entries.{defined}
use Rattle.heap_kept.proofs.Finding.{found}
use Rattle.heap_kept.proofs.Missing.{not_found}
use Rattle.heap_kept.specs.HeapKept.{Call, WriterAccepts, lent_by, HoldsRegion, IsHeaderOf}
use Rattle.heap_kept.proofs.Directs.{block_at, block-least, directs-has}

doubles : Doubles fixed
doubles = record { starts_direct = omega arith; rows_fill_slots = omega arith }

-- ---- an accepted call

module _ {c : Call} {p : ManagedPlan} (W : WriterAccepts c p) where
  abbrev xs : List ℕ
  xs = c.sizes

  abbrev o : ℕ
  o = c.offset_places

  abbrev b : ℕ
  b = c.block_places

  abbrev js : List ℕ
  js = c.objects

  abbrev address : ℕ
  address = c.site.region_address

  abbrev header : ℕ
  header = c.site.heap_header_address

  abbrev w : ℕ
  w = c.site.offset_size

  abbrev pub starts : List ℕ
  starts = plan_starts fixed w xs

  abbrev pub offsets : List ℕ
  offsets = plan_offsets fixed w xs

  -- the address of the first direct block
  abbrev pub first_direct : ℕ
  first_direct = address + indirect_bytes w header p.root_rows starts

  abbrev indirect_part : List ℕ
  indirect_part = indirects w header p.root_rows starts address first_direct

  abbrev direct_part : List ℕ
  direct_part = directs fixed w header offsets xs js starts

  pub planned : planned_for xs o b w ≡ Ok p
  planned = (written xs (lent_by c) c.site p W.plan_answered).0

  pub tests : Fit c.site (lent_by c) (sum xs) p.region_size
  tests = fit c.site (lent_by c) (sum xs) p.region_size (written xs (lent_by c) c.site p W.plan_answered).1

  -- planning passed its tests and went through
  pub went : Passing xs o b w × Went w xs p
  went = accepted xs o b w p planned

  pub width-legal : legal w ≡ true
  width-legal = went.0.width

  -- the block that the i-th object lies in
  pub block_of : (i : ℕ) → i < length xs → InPlacedBlock w xs i
  block_of = in-one-body xs o b w p planned

  indirect-length : length indirect_part ≡ indirect_bytes w header p.root_rows starts
  indirect-length = let a = indirects-planned xs o b w p planned header address first_direct in
      let c = indirect-bytes xs o b w p planned header in omega arith

  pub direct-length : length direct_part ≤ sizes_at fixed starts
  direct-length =
      let a = region-length xs o b w p planned header address js in
      let c = length-append indirect_part direct_part in
      let d = indirects-planned xs o b w p planned header address first_direct in
      let e = (tallied xs o b w p planned).allocated in
      omega arith

  -- the placed blocks in heap order
  pub starts-placed : Placed fixed 0 starts
  starts-placed = go (ℕ_discrete p.root_rows 0)
    where
      go : Dec (p.root_rows ≡ 0) → Placed fixed 0 starts
      go (yes z) =
          let S = fixed-slot (no-root-rows xs o b w p planned z).slot in
          subst (Placed fixed 0) (sym (bare-planned xs o b w p planned z).blocks)
          (more {lo = 0} {s = 0} (omega arith) (record { starts = S.starts; inside = S.inside; size_is = refl })
          none)
      go (no z) = (rooted xs o b w p planned (omega arith)).placed

  -- ---- a placed block, the n-th

  module _ (n : ℕ) (l : n < length starts) where
    abbrev pub start : ℕ
    start = slice_index starts n

    -- its address
    abbrev pub place_of : ℕ
    place_of = first_direct + sizes_at fixed (before start starts)

    pub there : from start starts ≡ start ∷ drop (suc n) starts
    there = nth-from starts-placed n l

    -- it ends in the region
    pub in-region : place_of + (slot_at fixed start).size ≤ address + p.region_size
    in-region =
        let a = size-within fixed starts there in
        let c = indirect-bytes xs o b w p planned header in
        let e = (tallied xs o b w p planned).allocated in
        omega arith

    -- and no address in it is too large
    pub place-fits : place_of + (slot_at fixed start).size ≤ 2 ^ 64 - 1
    place-fits =
        let i = in-region in
        let e = tests.end in
        let k = legal-small w width-legal in
        let q : 2 ^ (8 * w) ≤ 2 ^ 64 = pow_mono {i = 8 * w} {j = 64} (omega arith) in
        omega arith

    -- its bytes
    abbrev pub bytes_of : List ℕ
    bytes_of = block_at fixed w header offsets xs js start

    pub bytes-least : (slot_at fixed start).size ≤ length bytes_of
    bytes-least = block-least fixed w header start (slot_at fixed start).size
        (objects_in start (slot_at fixed start).size offsets xs js)

    coming : IsToCome fixed start place_of (drop (suc n) starts) 0 starts first_direct
    coming = record { placed = starts-placed; not_passed = omega arith; in_list = there; address_is = refl }

    -- ---- in the file

    module _ {F : List ℕ} (H : HoldsRegion F c p) where
      region-has : HasBytes F address (indirect_part ++ direct_part)
      region-has =
          let R : List ℕ = region c.site p.root_rows xs js in
          let m : length R ≡ p.region_size = region-length xs o b w p planned header address js in
          let i = in-region in
          let s = slot-some fixed start in
          has_some F address R (omega arith) (ap (λ (k : ℕ). take k (drop address F)) m ∙ H.region_there)

      -- the block stands there
      pub block-has : HasBytes F place_of bytes_of
      block-has =
          directs-has fixed w header offsets xs js F first_direct start (drop (suc n) starts) starts direct-length there
          (subst (λ (y : ℕ). HasBytes F (address + y) direct_part) indirect-length
          (has_right F address indirect_part direct_part region-has))

      pub block_inside : place_of + (slot_at fixed start).size ≤ length F
      block_inside = let k = block-has.in_file in let m = bytes-least in omega arith

      -- ---- under a header

      module _ {h : FractalHeapHeader} (T : IsHeaderOf h c p) (t len : ℕ) where
        pub table_is : h.table ≡ numbers_of fixed
        table_is = λ i. record {
          table_width = T.fixed_geometry.table_width i;
          starting_block_size = T.fixed_geometry.starting_block_size i;
          max_direct_block_size = T.fixed_geometry.max_direct_block_size i;
          max_heap_size = T.fixed_geometry.max_heap_size i;
        }

        below : place_of < 2 ^ (8 * w) - 1
        below = let i = in-region in let e = tests.end in let s = slot-some fixed start in omega arith

        -- a root of some rows is the last of the indirect blocks
        module _ (some : 0 < p.root_rows) where
          abbrev root : ℕ
          root = address + length (all_slots fixed w header p.root_rows 0 starts address first_direct).bytes

          few : p.root_rows ≤ 29
          few = (rooted xs o b w p planned some).few

          span_small : 0 + row_offset fixed p.root_rows < 2 ^ 64
          span_small = let m = row-mono fixed p.root_rows 29 few in omega arith

          agree : GivesRows (numbers_of fixed) fixed 29
          agree = agrees fixed (omega arith) (omega arith) (omega arith) 29 (λ r l. omega arith)

          is_block : BlockAt fixed p.root_rows 0
          is_block = root-block fixed (omega arith) (omega arith) p.root_rows (omega arith)

          blocks-are : indirect_part ≡ (block fixed w header p.root_rows 0 starts address first_direct).bytes
          blocks-are = indirects-some w header p.root_rows starts address first_direct some

          blocks-have : HasBytes F address (block fixed w header p.root_rows 0 starts address first_direct).bytes
          blocks-have = subst (HasBytes F address) blocks-are (has_left F address indirect_part direct_part region-has)

          blocks-below : address + length
              (block fixed w header p.root_rows 0 starts address first_direct).bytes ≤ 2 ^ (8 * w) - 1
          blocks-below = let y = ap length blocks-are in
              let x = indirects-planned xs o b w p planned header address first_direct in let u = tests.end in
              omega arith

          root_is : h.root_block_address ≡ root
          root_is = T.root_address
              ∙ ap (λ (y : ℕ). address + y)
              (sym (indirect-planned xs o b w p planned some header address first_direct).children)

          root_below : root < 2 ^ (8 * w) - 1
          root_below =
              let P = indirect-planned xs o b w p planned some header address first_direct in
              let c = P.children in
              let u = below in
              let i = P.bytes in
              let s = ap length blocks-are in
              let x = indirect-length in
              omega arith

        -- ---- however the blocks are taken

        module _ (taking : Taking) where
          abbrev Read : Result Place FormatError
          Read = root_by taking h.table F h.root_block_address h.current_rows_in_root_indirect_block t len w

          abbrev Wanted : Result Place FormatError
          Wanted = taking.object place_of (slot_at fixed start).size start

          -- a root of no rows is the one block
          bare-found : p.root_rows ≡ 0 → Read ≡ Wanted
          unfolding sizes_at
          bare-found z =
              let B = bare-planned xs o b w p planned z in
              let r = B.region in
              let a = B.allocated in
              let c = indirect-bytes xs o b w p planned header in
              let q = B.place in
              let f : start ≡ 0 = one starts B.blocks n l in
              let g = ap (sizes_at fixed) (before-none start (omega arith) starts-placed) in
              let e = T.root_address in
              let u = below in
              let d : h.root_block_address ≡ place_of = omega arith in
              let v = defined h.root_block_address w (omega arith) in
              let no-rows = T.root_rows ∙ z in
              let its = (fixed-slot (no-root-rows xs o b w p planned z).slot).size_is in
              let size : h.table.starting_block_size ≡ (slot_at fixed start).size
              = T.fixed_geometry.starting_block_size ∙ its ∙ ap (λ (x : ℕ). (slot_at fixed x).size) (sym f) in
              let block : taking.object h.root_block_address h.table.starting_block_size 0 ≡ Wanted
              = (λ i. taking.object (d i) (size i) (sym f i)) in
              grind (arith, common_steps)
            where
              one : (ss : List ℕ) → ss ≡ 0 ∷ [] → (n : ℕ) → n < length ss → slice_index ss n ≡ 0
              one ss e zero l = ap (λ (v : List ℕ). slice_index v 0) e
              one ss e (suc n) l = absurd (let z = ap length e in omega arith)

          -- from a root of some rows the walk goes over the indirect blocks
          module _ (O : Opens fixed w header F t taking) where
            module _ (some : 0 < p.root_rows) where
              by-walk : (x : Result Place FormatError)
                  → walk_by taking (numbers_of fixed) F w t len 64 (root some) p.root_rows 0 ≡ x → Read ≡ x
              by-walk x q =
                  let e = root_is some in
                  let u = root_below some in
                  let z = T.root_rows in
                  let v = defined h.root_block_address w (omega arith) in
                  let walk = (λ i. walk_by taking (table_is i) F w t len 64 (e i) (z i) 0) ∙ q in
                  grind (arith, common_steps)

              rows-found : start ≤ t → t < start + (slot_at fixed start).size → Read ≡ Wanted
              rows-found lo hi =
                  let r = (rooted xs o b w p planned some).reaches in
                  let e = end-reached starts-placed there in
                  let s = slot-some fixed start in
                  let f = few some in
                  by-walk Wanted
                  (found fixed doubles w header (numbers_of fixed) 29 (agree some) F width-legal t len taking O start
                  place_of (drop (suc n) starts) lo hi below p.root_rows 0 starts address first_direct 64 (few some)
                  (omega arith) (omega arith) (span_small some) (is_block some) (coming, omega arith)
                  (blocks-have some) (blocks-below some))

              -- where no placed block holds the offset
              none-found : NoneHolds fixed t starts → Read ≡ missed F t len
              none-found X =
                  let f = few some in
                  by-walk (missed F t len)
                  (not_found fixed doubles w header (numbers_of fixed) 29 (agree some) F width-legal t len taking O
                  p.root_rows 0 starts address first_direct 64 (few some) (omega arith) (omega arith)
                  (span_small some) (is_block some) (record { placed = starts-placed; none_holds = X })
                  (blocks-have some) (blocks-below some))

            -- from the root to the block
            pub block-found : start ≤ t → t < start + (slot_at fixed start).size → Read ≡ Wanted
            block-found lo hi = go (ℕ_discrete p.root_rows 0)
              where
                go : Dec (p.root_rows ≡ 0) → Read ≡ Wanted
                go (yes z) = bare-found z
                go (no z) = rows-found (omega arith) lo hi

        -- ---- as they stand

        abbrev plain : Taking
        plain = unchecked F t len

        plain-opens : Opens fixed w header F t plain
        plain-opens = record { is_opened = λ q m at es k e G. refl }

        pub by_bare : p.root_rows ≡ 0 → root_at h F t len w ≡ direct_at F place_of start t len
        by_bare z = bare-found plain z

        pub by-missing : 0 < p.root_rows → NoneHolds fixed t starts → root_at h F t len w ≡ missed F t len
        by-missing some X = none-found plain plain-opens some X

        pub root-finds : start ≤ t → t < start + (slot_at fixed start).size
            → root_at h F t len w ≡ direct_at F place_of start t len
        root-finds lo hi = block-found plain plain-opens lo hi
