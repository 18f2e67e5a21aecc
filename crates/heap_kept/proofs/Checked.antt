-- Every nonempty object of a written region is found with every block on the way tested, with exactly its bytes.
use Rattle.std.proofs.Common.{◌≡◌, ℕ, suc, ◌+◌, ◌-◌, ◌^◌, ◌≤◌, ◌<◌, true, List, length, drop, slice_index, Ok, refl}
use Rattle.std.proofs.Common.{ap, ◌∙◌}
use Rattle.std.proofs.Common.{arith}
use Rattle.std.proofs.lemmas.Grind.{common_steps}
use Rattle.table.specs.Table.{fixed}
use Rattle.table.specs.Slots.{slot_at}
use Rattle.plan.specs.declared.ManagedPlan.{ManagedPlan}
use Rattle.plan.specs.Plans.{object_start}
use Rattle.region_directs.specs.Directs.{objects_in}
use Rattle.reading.specs.declared.rows.DoublingTable.{DoublingTable}
use Rattle.reading.specs.Walk.{root_by}
use Rattle.checked_reading.specs.declared.Checked.{Checked}
use Rattle.checked_reading.specs.Blocks.{has_checksum, direct_checked}
use Rattle.checked_reading.specs.Reading.{object_in, object_checked, checked}
use Rattle.fractal_heap.specs.declared.header.FractalHeapHeader.{FractalHeapHeader}
use Rattle.fractal_heap.specs.Read.{tests_of, managed_checked}
use Rattle.heap_kept.specs.HeapKept.{Call, WriterAccepts, HoldsRegion, IsHeaderOf, ObjectIsManaged, object_id}
use Rattle.heap_kept.specs.Walking.{Opens}
use Rattle.heap_kept.specs.CheckedKept.{CheckedKept, ObjectIsFound}
use Rattle.heap_kept.proofs.Agreeing.{numbers_of}
use Rattle.heap_kept.proofs.Directs.{directs-full}
use Rattle.heap_kept.proofs.Passing.{Fits, indirect-passes, direct-passes}
use Rattle.heap_kept.proofs.FromRoot.{tests, width-legal, starts, offsets, start, place_of, there, direct-length}
use Rattle.heap_kept.proofs.FromRoot.{block-has, table_is, block-found}
use Rattle.heap_kept.proofs.Theorem.{sought, B, slot-size, size_small, offset-small, bytes}

module _ {c : Call} {p : ManagedPlan} (W : WriterAccepts c p) {F : List ℕ} (H : HoldsRegion F c p)
    {h : FractalHeapHeader} (T : IsHeaderOf h c p) (sums : has_checksum h.flags ≡ true)
    {i : ℕ} (l : i < length c.sizes) (some : 0 < slice_index c.sizes i) where
  abbrev w : ℕ
  w = c.site.offset_size

  -- what the blocks are tested against
  abbrev heap : Checked
  heap = tests_of h c.site.heap_header_address

  abbrev d : DoublingTable
  d = numbers_of fixed

  abbrev offset : ℕ
  offset = object_start w c.sizes i

  abbrev size : ℕ
  size = slice_index c.sizes i

  abbrev n : ℕ
  n = (B W H T l).n

  abbrev placed : n < length (starts W)
  placed = (B W H T l).placed

  abbrev its : ℕ
  its = start W n placed

  abbrev place : ℕ
  place = place_of W n placed

  abbrev slot : ℕ
  slot = (slot_at fixed its).size

  before-end : offset < its + (B W H T l).size
  before-end = let t = (B W H T l).ends_inside in omega arith

  small : offset < 2 ^ 40
  small = offset-small W H T l before-end

  fits : (o : ℕ) → o ≤ offset → Fits heap d fixed w o
  fits o k =
      let s = small in
      let below = (tests W).heap in
      record {
        width = width-legal W;
        heap_bits = refl;
        few = omega arith;
        header_fits = omega arith;
        offset_fits = omega arith;
      }

  -- written indirect blocks are opened
  opens : Opens fixed w c.site.heap_header_address F offset (checked heap d F w offset size)
  opens = record { is_opened = λ a rows at es k e G. indirect-passes (fits at k) es F a rows e G }

  -- the object's block passes
  passes : direct_checked heap d F w place slot its ≡ Ok tt
  passes =
      let f = (B W H T l).past_header in
      let t = (B W H T l).ends_inside in
      let z = slot-size W H T l in
      let full = directs-full fixed w c.site.heap_header_address (offsets W) c.sizes c.objects its
      (drop (suc n) (starts W)) (starts W) (direct-length W) (there W n placed) in
      direct-passes (fits its (omega arith)) sums slot
      (objects_in its slot (offsets W) c.sizes c.objects) F place full
      (rw sums (omega arith)) (block-has W n placed H)

  found : object_checked heap d F w offset size place slot its
      ≡ Ok (record { position = place + (offset - its); length = size })
  unfolding object_checked object_in
  found =
      let t = (B W H T l).ends_inside in
      let z = slot-size W H T l in
      let f = (B W H T l).past_header in
      rw passes (grind (arith, common_steps))

  object-found : ObjectIsManaged h c i
      → ObjectIsFound (managed_checked h c.site.heap_header_address F (object_id w c.sizes i) w) F c i
  object-found m =
      let f = (B W H T l).past_header in
      let t = (B W H T l).ends_inside in
      let z = slot-size W H T l in
      record {
        position = place + (offset - its);
        reader_accepts =
            sought T (checked heap h.table F w) F w offset size small (size_small W H T l) m
            ∙ ap (λ (e : DoublingTable). root_by (checked heap e F w offset size) h.table F h.root_block_address
            h.current_rows_in_root_indirect_block offset size w) (table_is W n placed H T offset size)
            ∙ block-found W n placed H T offset size (checked heap d F w offset size) opens (omega arith) (omega arith)
            ∙ found;
        bytes_there = bytes W H T l before-end;
      }

pub checked-kept : CheckedKept
checked-kept c p W F H h T sums i l some m = object-found W H T sums l some m
