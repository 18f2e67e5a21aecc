-- The laws of a region in the words of the contracts.
use Rattle.std.proofs.Common.{ℕ, ◌/◌, ◌^◌, ◌≤◌, ◌<◌, ◌≡◌, sym, ap}
use Rattle.table.specs.Table.{Table}
use Rattle.table.specs.Slots.{slot_bits, slot_at}
use Rattle.table.specs.declared.Slot.{Slot}
use Rattle.table.proofs.Slots.{slot-bits-is}
use Rattle.table_laws.proofs.Format.{SlotOf}
use Rattle.region_indirects.proofs.Walking.{slots-passed}
use Rattle.region_directs.proofs.Lengths.{directs-length}
use Rattle.region_directs.proofs.Objects.{objects-at}
use Rattle.region_write.specs.Laws.{RegionsFill, RootsStand, IndirectsPlanned, RegionsSummed, DirectsFill, ObjectsLie}
use Rattle.region_write.specs.Laws.{RowsPassed}
use Rattle.region_write.proofs.Indirect.{indirect-planned, region-planned, bare-planned}
use Rattle.region_write.proofs.Region.{region-length, root-place}

pub regions-fill : RegionsFill
regions-fill xs o b site p e js =
    region-length xs o b site.offset_size p e site.heap_header_address site.region_address js

pub roots-stand : RootsStand
roots-stand xs o b site p e js = root-place xs o b site.offset_size p e site.heap_header_address site.region_address js

pub indirects-planned-all : IndirectsPlanned
indirects-planned-all xs o b w p e l header first direct = indirect-planned xs o b w p e l header first direct

pub regions-summed : RegionsSummed
regions-summed xs o b w p e = record { rows = region-planned xs o b w p e; bare = bare-planned xs o b w p e }

pub directs-fill : DirectsFill
directs-fill w header xs js s l e = directs-length w header js xs s l e

-- where a slot is found at its own start
slot-of : (t : Table) → t.start_bits ≤ t.direct_bits → (c z : ℕ) → c < 2 ^ t.heap_bits
    → slot_at t c ≡ record { start = c; size = z } → SlotOf t c z
slot-of t g c z l e = record {
  starts =
      record {
        bits = slot_bits t c;
        slotted = slot-bits-is t c g l;
        nth = c / 2 ^ slot_bits t c;
        here =
            sym (ap (λ (s : Slot). s.start) e);
      };
  inside = l;
  size_is = sym (ap (λ (s : Slot). s.size) e);
}

pub objects-lie : ObjectsLie
objects-lie t g k w header xs js s all e c z i l at j some lo hi =
    objects-at t g k w xs js all s e header c z i j some (slot-of t g c z l at) lo hi

pub rows-passed : RowsPassed
rows-passed t w header inner k r rs at ss pos next b = slots-passed t w header inner k r rs at ss pos next b
