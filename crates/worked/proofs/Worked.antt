-- The worked cases hold of the definitions.
use Rattle.std.proofs.Common.{◌≡◌, ℕ, ◌^◌, ◌<◌, max, List, [], ◌∷◌, length, slice_index, Ok, refl, sym, ap, ◌∙◌}
use Rattle.std.proofs.Common.{subst₂, arith}
use Rattle.std.proofs.Math.Decide.{ℕ_discrete}
use Rattle.std.specs.Int.Count.{count_leading_zeros}
use Rattle.numbers.specs.Numbers.{bytes_from, bytes_needed}
use Rattle.checksum.specs.Lookup3.{mixed_groups, switched, hashlittle}
use Rattle.table.specs.Table.{fixed, row_in, covering_in}
use Rattle.table.specs.Slots.{slot_bits_in, entered_bytes_in}
use Rattle.numbers.specs.Sums.{sum}
use Rattle.table.specs.Capacity.{capacities}
use Rattle.planner.specs.Steps.{open_in, run_from, offsets_from, starts_from, plan_starts}
use Rattle.plan.specs.declared.ManagedPlan.{ManagedPlan}
use Rattle.plan.specs.Answer.{planned_for}
use Rattle.plan.specs.Checks.{sizes_checked}
use Rattle.plan.specs.Plans.{object_start}
use Rattle.fields.specs.LittleEndian.{le, value, le_at}
use Rattle.reading.specs.Rows.{heap_size}
use Rattle.fractal_heap.specs.Spelling.{spelled}
use Rattle.fractal_heap.specs.Writing.{widths_checked}
use Rattle.region_write.proofs.Indirect.{bare-planned}
use Rattle.region_write.proofs.Region.{region-length, root-place}
use Rattle.heap_kept.proofs.FromRoot.{planned as planned-call}
use Rattle.heap_kept.proofs.Empty.{missed-there}
use Rattle.worked.specs.Cases.{RegionIsPlanned, EmptyUnfound, Both, All, cases}
use Rattle.heap_kept.specs.Walking.{NoneHolds, no_block, not_in_first}

both : {P Q : Type 0} → P → Q → Both P Q
both p q = record { first = p; rest = q }

planned : (w : ℕ) (xs : List ℕ) (p : ManagedPlan) → planned_for xs (length xs) (max 1 (length xs)) w ≡ Ok p
    → RegionIsPlanned w xs p
planned w xs p e = record {
  size_planned = region-length xs (length xs) (max 1 (length xs)) w p e;
  root_there = root-place xs (length xs) (max 1 (length xs)) w p e;
}

module _ (w : ℕ) (xs ss : List ℕ) (starts : plan_starts fixed w xs ≡ ss) (two : 1 < length ss) where
  -- more than one block is under an indirect root
  rows : (o b : ℕ) (p : ManagedPlan) → planned_for xs o b w ≡ Ok p → 0 < p.root_rows
  rows o b p e = go (ℕ_discrete p.root_rows 0)
    where
      go : Dec (p.root_rows ≡ 0) → 0 < p.root_rows
      go (yes z) = absurd (let n = ap length (sym (bare-planned xs o b w p e z).blocks ∙ starts) in omega arith)
      go (no z) = omega arith

  -- an empty object that no placed block holds is not found there
  missing : (i x : ℕ) → object_start w xs i ≡ x → i < length xs → slice_index xs i ≡ 0 → NoneHolds fixed x ss
      → x < 2 ^ 40 → EmptyUnfound w xs i
  missing i x is l e C small = record {
    index = l;
    empty = e;
    unfound = λ js header address offsets blocks region p W file H h T.
        (missed-there W H T (object_start w xs i) 0 (let n = ap length starts in omega arith)
        (rows offsets blocks p (planned-call W)) (subst₂ (NoneHolds fixed) (sym is) (sym starts) C) (omega arith));
  }

-- neither of the first two slots holds 2,048
after_two : NoneHolds fixed 2048 (0 ∷ 1024 ∷ [])
unfolding slot_bits_in row_in
after_two = not_in_first {start = 0} (λ _. omega arith) (not_in_first {start = 1024} (λ _. omega arith) no_block)

-- worked case 5's second sentence: after two blocks that are full the third object begins where no block is
third-missed : plan_starts fixed 8 (1002 ∷ 1002 ∷ 0 ∷ []) ≡ 0 ∷ 1024 ∷ []
    → object_start 8 (1002 ∷ 1002 ∷ 0 ∷ []) 2 ≡ 2048 → EmptyUnfound 8 (1002 ∷ 1002 ∷ 0 ∷ []) 2
third-missed starts is =
    missing 8 (1002 ∷ 1002 ∷ 0 ∷ []) (0 ∷ 1024 ∷ []) starts (omega arith) 2 2048 is (omega arith) refl after_two
    (omega arith)

pub worked : All cases
unfolding mixed_groups switched hashlittle bytes_from le value le_at count_leading_zeros
    heap_size row_in covering_in slot_bits_in entered_bytes_in sum capacities open_in run_from offsets_from
    starts_from sizes_checked planned_for widths_checked spelled
worked =
    both (refl, refl, refl, planned _ _ _ refl)
    (both (refl, refl, refl, planned _ _ _ refl)
    (both (refl, refl, refl, planned _ _ _ refl)
    (both (refl, refl, refl, planned _ _ _ refl)
    (both (refl, refl, refl, planned _ _ _ refl)
    (both (refl, refl, refl, planned _ _ _ refl)
    (both (third-missed refl refl)
    (both (refl, refl, refl, planned _ _ _ refl)
    (both refl
    (both (refl, refl, refl, planned _ _ _ refl)
    (both (refl, refl)
    (both refl
    (both (omega arith, omega arith, refl)
    (both (omega arith, refl, refl, omega arith, refl, refl)
    (both refl
    (both (refl, refl, refl, planned _ _ _ refl)
    (both refl
    (both refl
    (both refl
    (both refl
    (both refl
    (both refl
    (both refl
    (both refl
    (both refl
    (both refl
    (both refl
    (both refl
    (both refl
    (both refl
    (both refl
    (both refl
    (both refl
    (both refl
    (both refl
    refl))))))))))))))))))))))))))))))))))
