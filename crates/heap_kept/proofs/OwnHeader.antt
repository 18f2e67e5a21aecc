-- Every field of a plan's own header fits its width, where lengths have eight bytes.
use Rattle.std.proofs.Common.{◌≡◌, refl, ap, ℕ, zero, suc, ◌+◌, ◌*◌, ◌^◌, ◌<◌, ◌≤◌, ◌⊎◌, ⊎_elim, Bool, length}
use Rattle.std.proofs.Common.{slice_index, Ok, arith}
use Rattle.std.proofs.Common.{pow_mono, pow_pos}
use Rattle.std.proofs.lemmas.Bool.Decides.{nat_tests}
use Rattle.fields.specs.Undefined.{undefined_address}
use Rattle.fields.proofs.Widths.{legal-small}
use Rattle.table.specs.Table.{fixed, row_offset}
use Rattle.table.specs.Sizes.{max_managed}
use Rattle.table_laws.specs.Count.{count}
use Rattle.planner.specs.declared.State.{State}
use Rattle.plan.specs.declared.ManagedPlan.{ManagedPlan}
use Rattle.plan.proofs.Checking.{all_small}
use Rattle.plan.specs.End.{end_state}
use Rattle.plan.specs.Answer.{totals}
use Rattle.plan.proofs.Free.{free-is-count}
use Rattle.plan.proofs.Root.{Bare, Rowed, shape}
use Rattle.region_write.proofs.Indirect.{rooted}
use Rattle.fractal_heap.specs.Header.{header_numbers}
use Rattle.fractal_heap.specs.Spelling.{AllFit, field_widths}
use Rattle.fractal_heap.specs.Writing.{header_length, header_checked}
use Rattle.fractal_heap.proofs.Written.{acceptable}
use Rattle.heap_kept.specs.HeapKept.{Call, WriterAccepts}
use Rattle.heap_kept.specs.OwnHeader.{own_header, OwnHeadersAreAccepted}
use Rattle.heap_kept.proofs.FromRoot.{planned, tests, went, width-legal}

-- of so many numbers no more pass a test
count-most : (test : ℕ → Bool) (n : ℕ) → count test n ≤ n
unfolding count
count-most test zero = omega arith
count-most test (suc n) = let before = count-most test n in grind (arith, nat_tests)

-- the root's place and the blocks lie in the region
root-before : (w : ℕ) (s : State) → (totals fixed w s).root_place ≤ (totals fixed w s).region_size
root-before w s = grind (arith, nat_tests)

blocks-within : (w : ℕ) (s : State) → (totals fixed w s).allocated_space ≤ (totals fixed w s).region_size
blocks-within w s = grind (arith, nat_tests)

module _ {c : Call} {p : ManagedPlan} (W : WriterAccepts c p) where
  abbrev w : ℕ
  w = c.site.offset_size

  small : w ≤ 8
  small = legal-small w (width-legal W)

  shaped : Bare w c.sizes p (went W).1.state ⊎ Rowed w c.sizes p (went W).1.state
  shaped = shape w c.sizes p small (went W).1

  -- the region ends at or before the undefined address, which has the most bits that an address has
  end-fits : c.site.region_address + p.region_size ≤ undefined_address w
  end-fits = (tests W).end

  undefined-fits : undefined_address w < 2 ^ (8 * w)
  undefined-fits = let some = pow_pos (8 * w) in omega arith

  widest : 2 ^ (8 * w) ≤ 2 ^ 64
  widest = let l = small in pow_mono {i = 8 * w} {j = 64} (omega arith)

  root-in-region : p.root_place ≤ p.region_size
  root-in-region =
      let G = (went W).1 in
      let e : p ≡ totals fixed w (end_state fixed w G.state) = G.totals_is in
      rw e (root-before w (end_state fixed w G.state))

  blocks-in-region : p.allocated_space ≤ p.region_size
  blocks-in-region =
      let G = (went W).1 in
      let e : p ≡ totals fixed w (end_state fixed w G.state) = G.totals_is in
      rw e (blocks-within w (end_state fixed w G.state))

  managed-fits : p.managed_space ≤ 2 ^ 40
  managed-fits = ⊎_elim (λ B. omega (arith, B.managed)) (λ R. omega (arith, R.managed, R.heap)) shaped

  iterator-fits : p.allocation_iterator ≤ 2 ^ 40
  iterator-fits = ⊎_elim (λ B. omega (arith, B.iterator)) (λ R. go R) shaped
    where
      go : Rowed w c.sizes p (went W).1.state → p.allocation_iterator ≤ 2 ^ 40
      go R = let reach = R.fewest.rows_reach in let e = ap (row_offset fixed) R.rows in omega (arith, R.heap)

  free-fits : p.free_space ≤ 2 ^ 40
  free-fits =
      let F = free-is-count c.sizes c.offset_places c.block_places w p (planned W) in
      let most = count-most F.test p.managed_space in
      let m = managed-fits in
      omega (arith, F.passes_as_many)

  rows-fit : p.root_rows ≤ 29
  rows-fit = ⊎_elim (λ B. omega (arith, B.rows)) (λ R. go R) shaped
    where
      go : Rowed w c.sizes p (went W).1.state → p.root_rows ≤ 29
      go R = (rooted c.sizes c.offset_places c.block_places w p (planned W) (omega (arith, R.rows))).few

  own-fits : length c.sizes < 2 ^ 64 → AllFit (field_widths w 8) (header_numbers (own_header c p))
  unfolding AllFit
  own-fits few =
      let end = end-fits in
      let undefined = undefined-fits in
      let wide = widest in
      let root = root-in-region in
      let blocks = blocks-in-region in
      let managed = managed-fits in
      let iterator = iterator-fits in
      let free = free-fits in
      let rows = rows-fit in
      grind arith

  -- no object is longer than the largest managed one
  pub sizes-managed : (i : ℕ) → i < length c.sizes → slice_index c.sizes i ≤ max_managed fixed w
  sizes-managed = all_small (max_managed fixed w) 0 c.sizes (went W).0.sizes

  own-passes : length c.sizes < 2 ^ 64 → (lent : ℕ) → header_length w 8 ≤ lent
      → header_checked (header_numbers (own_header c p)) w 8 lent ≡ Ok tt
  own-passes few lent room =
      acceptable (own_header c p) w 8 lent
      (record { offsets = width-legal W; lengths = refl; plain = refl; fits = own-fits few; room = room })

pub own-headers-accepted : OwnHeadersAreAccepted
own-headers-accepted c p W few =
    record {
      is_header =
          record {
            unfiltered = refl;
            root_address = refl;
            root_rows = refl;
            fixed_geometry =
                record {
                  table_width = refl;
                  starting_block_size = refl;
                  max_direct_block_size = refl;
                  max_heap_size = refl;
                };
          };
      all_managed = sizes-managed W;
      writer_accepts = own-passes W few;
      is_held = λ file at there.
          record {
            lent = header_length c.site.offset_size 8;
            writer_accepts = own-passes W few (header_length c.site.offset_size 8) (omega arith);
            header_there = there;
          };
    }
