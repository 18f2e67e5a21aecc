-- The ID that an object is given as an open plan accepts it is its ID in every run that is written.
use Rattle.std.proofs.Common.{◌≡◌, ℕ, ◌+◌, ◌<◌, List, ◌∷◌, ◌++◌, length, slice_index, sym, ap, ap₂, ◌∙◌, subst}
use Rattle.std.proofs.Common.{arith, length-append}
use Rattle.std.proofs.Math.Seq.{get_or-append_seam}
use Rattle.table.specs.Table.{fixed}
use Rattle.planner.specs.Steps.{plan_offsets}
use Rattle.plan.specs.declared.ManagedPlan.{ManagedPlan}
use Rattle.plan.specs.Answer.{planned_for}
use Rattle.plan.specs.Plans.{object_start}
use Rattle.open_plan.proofs.Planned.{small-placed, stays}
use Rattle.ids.specs.Written.{managed_id}
use Rattle.heap_kept.specs.HeapKept.{Call, WriterAccepts, object_id, ComesBack, part_of}
use Rattle.heap_kept.specs.Kept.{IsIdOf}
use Rattle.heap_kept.specs.Given.{IsGiven, GivenIdsHold}
use Rattle.heap_kept.proofs.FromRoot.{planned}
use Rattle.heap_kept.proofs.Theorem.{heap-kept, early-id-stays}

module _ (c : Call) (p : ManagedPlan) (W : WriterAccepts c p) (xs later : List ℕ) (x o : ℕ)
    (E : c.sizes ≡ xs ++ (x ∷ later)) (G : IsGiven c.site.offset_size xs x o) where
  abbrev w : ℕ
  w = c.site.offset_size

  abbrev i : ℕ
  i = length xs

  among : i < length c.sizes
  among = let n = ap length E in let m = length-append xs (x ∷ later) in omega arith

  size-is : slice_index c.sizes i ≡ x
  size-is = ap (λ (l : List ℕ). slice_index l i) E ∙ get_or-append_seam xs x later 0

  offset-is : object_start w c.sizes i ≡ o
  offset-is =
      let (small, placed) = small-placed w G.before G.objects x G.after o G.is_accepted in
      ap (λ (l : List ℕ). slice_index (plan_offsets fixed w l) i) E
      ∙ stays G.is_plan small placed later c.offset_places c.block_places p
      (ap (λ (l : List ℕ). planned_for l c.offset_places c.block_places w) (sym E) ∙ planned W)

  its-id : managed_id fixed o x ≡ object_id w c.sizes i
  its-id = sym (ap₂ (managed_id fixed) offset-is size-is)

  early-id : 0 < x → IsIdOf (managed_id fixed o x) c (i + 1) i
  early-id s =
      record {
        index = omega arith;
        front = let a = among in omega arith;
        not_empty = let e = size-is in omega arith;
        id_given = its-id ∙ sym (early-id-stays W (i + 1) i (omega arith) among);
      }

pub given-ids-hold : GivenIdsHold
given-ids-hold c p W xs later x o E G =
    record {
      is_its_id = its-id c p W xs later x o E G;
      is_early_id = early-id c p W xs later x o E G;
      comes_back = λ s file H h T m.
          let part : List ℕ = part_of c.sizes c.objects (length xs) in
          let w : ℕ = c.site.offset_size in
          let size : slice_index c.sizes (length xs) ≡ x = size-is c p W xs later x o E G in
          subst (λ (y : ℕ). ComesBack file h w y x part) (offset-is c p W xs later x o E G)
          (subst (λ (z : ℕ). ComesBack file h w (object_start w c.sizes (length xs)) z part) size
          (heap-kept.comes_back c p W file H h T (length xs) (among c p W xs later x o E G) (omega arith)
          (omega (arith, size, m))));
    }
