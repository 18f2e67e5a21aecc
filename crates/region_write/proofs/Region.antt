-- Of every plan: the region of its objects is as long as planned, and its root stands at the planned place.
use Rattle.std.proofs.lemmas.Bool.Decides.{nat_tests}
use Rattle.std.proofs.Common.{if◌then◌else◌, ◌==◌, ℕ, zero, suc, ◌+◌, ◌<◌, ◌≡◌, refl, sym, ap, ◌∙◌, List, arith}
use Rattle.std.proofs.Common.{length, take, drop, length-append, Ok}
use Rattle.fields.proofs.Widths.{legal-small}
use Rattle.table.specs.Table.{fixed}
use Rattle.planner.specs.Steps.{plan_offsets, plan_starts}
use Rattle.planner.specs.declared.State.{State}
use Rattle.plan.specs.declared.ManagedPlan.{ManagedPlan}
use Rattle.plan.specs.End.{end_state}
use Rattle.plan.specs.Answer.{planned_for}
use Rattle.plan.proofs.Answering.{accepted}
use Rattle.plan.proofs.Tally.{counted, tallied}
use Rattle.region_blocks.specs.Site.{site_of}
use Rattle.region_directs.specs.Directs.{directs}
use Rattle.region_directs.proofs.Lengths.{directs-length}
use Rattle.region_write.specs.Region.{indirects, indirect_bytes, region, root_bytes}
use Rattle.region_write.proofs.Root.{indirects-none, indirects-some, root-bare, root-rows}
use Rattle.region_write.proofs.Indirect.{indirect-planned, region-planned, bare-planned}

closed-space : (w : ℕ) (s : State) → (end_state fixed w s).allocated ≡ (if s.count == 0 then 1024 else s.allocated)
closed-space w s = grind (arith, nat_tests)

module _ (xs : List ℕ) (o b w : ℕ) (p : ManagedPlan) (e : planned_for xs o b w ≡ Ok p) where
  abbrev n : ℕ
  n = p.root_rows

  abbrev ss : List ℕ
  ss = plan_starts fixed w xs

  directs-planned : (header : ℕ) (js : List ℕ)
      → length (directs fixed w header (plan_offsets fixed w xs) xs js ss) ≡ p.allocated_space
  directs-planned header js =
      let A = accepted xs o b w p e in
      let G = A.1 in
      let l = legal-small w A.0.width in
      directs-length w header js xs G.state (omega arith) G.ran ∙ sym (closed-space w G.state)
      ∙ (counted w xs G.state G.ran).sizes_are
      ∙ sym (tallied xs o b w p e).allocated

  -- the indirect blocks are what the direct ones leave of the region, whatever the addresses in them
  pub indirects-planned : (header address direct : ℕ)
      → length (indirects w header n ss address direct) + p.allocated_space ≡ p.region_size
  indirects-planned header address direct = go n refl
    where
      go : (m : ℕ) → n ≡ m → length (indirects w header n ss address direct) + p.allocated_space ≡ p.region_size
      go zero z =
          let B = bare-planned xs o b w p e z in
          let a = ap length (indirects-none w header n ss address direct z) in
          omega (arith, B.region, B.allocated)
      go (suc m) z =
          let l : 0 < n = omega arith in
          let a = ap length (indirects-some w header n ss address direct l) in
          let c = (indirect-planned xs o b w p e l header address direct).bytes in
          let d = region-planned xs o b w p e l in
          omega arith

  pub indirect-bytes : (header : ℕ) → indirect_bytes w header n ss + p.allocated_space ≡ p.region_size
  indirect-bytes header = indirects-planned header 0 0

  module _ (header address : ℕ) (js : List ℕ) where
    -- the region is as long as planned, for objects of any bytes
    pub region-length : length (region (site_of w header address) n xs js) ≡ p.region_size
    region-length =
        let d : ℕ = address + indirect_bytes w header n ss in
        length-append (indirects w header n ss address d) (directs fixed w header (plan_offsets fixed w xs) xs js ss)
        ∙ (let a = indirects-planned header address d in let c = directs-planned header js in omega arith)

    -- and the root's bytes begin at the planned place
    pub root-place : let site = site_of w header address in
        let root = root_bytes site n xs js in
        take (length root) (drop p.root_place (region site n xs js)) ≡ root
    root-place = go n refl
      where
        go : (m : ℕ) → n ≡ m → let site = site_of w header address in
            let root = root_bytes site n xs js in
            take (length root) (drop p.root_place (region site n xs js)) ≡ root
        go zero z = rw (z, (bare-planned xs o b w p e z).place) (root-bare (site_of w header address) xs js)
        go (suc m) z =
            let direct : ℕ = address + indirect_bytes w header n ss in
            let children = rw z at (indirect-planned xs o b w p e (omega arith) header address direct).children in
            rw z (root-rows (site_of w header address) m xs js p.root_place children)
