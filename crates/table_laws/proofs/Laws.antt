-- The laws of the table in the words of the contracts.
use Rattle.std.proofs.Common.{ℕ, zero, suc, ◌*◌, ◌/◌, ◌^◌, ◌≤◌, ◌<◌, ◌≡◌, refl, sym, ap, ◌∙◌, subst, Bool, true, ◌&&◌}
use Rattle.std.proofs.Common.{arith}
use Rattle.std.proofs.Math.Nat.{div-mul-le_self}
use Rattle.std.proofs.lemmas.Bool.Decides.{nat_tests}
use Rattle.std.specs.Prelude.{◌↔◌, nat_lt}
use Rattle.table.specs.Table.{Table, row_offset, max_rows}
use Rattle.table.specs.Slots.{Direct, slot_bits, slot_at, slot_end}
use Rattle.table.specs.declared.Slot.{Slot}
use Rattle.table.proofs.Slots.{Start, start-here, slot-start, slot-again, end-gt, end-le, end-start, apart}
use Rattle.table_laws.specs.Count.{InBody}
use Rattle.table_laws.specs.Laws.{IsTable, SlotsInOrder, SlotsOrdered, SlotsOfFormat, BodiesCounted, BodiesHeld}
use Rattle.table_laws.proofs.Counting.{count-ext}
use Rattle.table_laws.proofs.Format.{in_body, SlotOf, slots-meet, direct-start, start-direct, body-in, body-out}
use Rattle.table_laws.proofs.Bodies.{bodies}

-- two slots of the same start and size
same-slot : (a b : Slot) → a.start ≡ b.start → a.size ≡ b.size → a ≡ b
same-slot a b e f = λ i. record { start = e i; size = f i }

same-test : (a b : Bool) → (a ≡ true → b ≡ true) → (b ≡ true → a ≡ true) → a ≡ b
same-test a b f g = grind arith

module _ (t : Table) (g : t.start_bits ≤ t.direct_bits) (k : t.start_bits ≤ t.heap_bits) where
  begins : (x : ℕ) → (slot_at t x).start ≤ x
  begins x = div-mul-le_self x (2 ^ slot_bits t x)

  -- what is found at an offset is a slot
  found : (x : ℕ) → x < 2 ^ t.heap_bits → SlotOf t (slot_at t x).start (slot_at t x).size
  found x h = record {
    starts = slot-start t g k x h;
    inside = omega (arith, begins x, h);
    size_is = ap (λ (b : ℕ). 2 ^ b) (sym (slot-again t g k x h));
  }

  one : (x y : ℕ) → x < 2 ^ t.heap_bits → (slot_at t x).start ≤ y → y < slot_end (slot_at t x)
      → slot_at t y ≡ slot_at t x
  one x y h lo hi =
      let l : y < 2 ^ t.heap_bits = omega (arith, hi, end-le t x g k h) in
      let S = found x h in
      let R = found y l in
      let e : (slot_at t y).start ≡ (slot_at t x).start = slots-meet t g y k R S (begins y) (end-gt t y) lo hi in
      same-slot (slot_at t y) (slot_at t x) e (R.size_is ∙ ap (λ (s : ℕ). (slot_at t s).size) e ∙ sym S.size_is)

  aligned : (x : ℕ) → (n : ℕ) × ((slot_at t x).start ≡ n * (slot_at t x).size)
  aligned x = (x / 2 ^ slot_bits t x, refl)

  distinct : (x y : ℕ) → x < 2 ^ t.heap_bits → y < 2 ^ t.heap_bits → (slot_at t x).start < (slot_at t y).start
      → slot_end (slot_at t x) ≤ (slot_at t y).start
  distinct x y h l u =
      let S = found x h in
      let a = apart t g k (slot_at t x).start (slot_at t y).start S.starts (found y l).starts S.inside u in
      omega (arith, a, S.size_is, start-here t g k (slot_at t x).start S.starts S.inside)

  pub in-order : SlotsInOrder t
  in-order = record {
    in_its_slot = λ x h. (begins x, end-gt t x);
    in_no_other = one;
    aligned = λ x h. aligned x;
    ends_in_heap = λ x h. end-le t x g k h;
    next_at_end = λ x h l. start-here t g k (slot_end (slot_at t x)) (end-start t g k x h) l;
    none_inside = distinct;
  }

module _ (t : Table) (T : IsTable t) where
  starts-below : t.start_bits ≤ t.heap_bits
  starts-below = omega (arith, T.row_in_heap)

  of-format : (s z : ℕ)
      → Direct t (max_rows t) s z ↔ ((s < 2 ^ t.heap_bits) × (slot_at t s ≡ record { start = s; size = z }))
  of-format s z = (there, back)
    where
      there : Direct t (max_rows t) s z → (s < 2 ^ t.heap_bits) × (slot_at t s ≡ record { start = s; size = z })
      there D =
          let S = direct-start t T.start_in_direct T.row_in_indirect T.row_in_heap D in
          let e = start-here t T.start_in_direct starts-below s S.starts S.inside in
          (S.inside, same-slot (slot_at t s) (record { start = s; size = z }) e (sym S.size_is))

      back : (s < 2 ^ t.heap_bits) × (slot_at t s ≡ record { start = s; size = z }) → Direct t (max_rows t) s z
      back (l, e) =
          start-direct t T.start_in_direct T.row_in_indirect T.row_in_heap
          (record {
            starts = subst (Start t) (ap (λ (b : Slot). b.start) e) (found t T.start_in_direct starts-below s l).starts;
            inside = l;
            size_is = sym (ap (λ (b : Slot). b.size) e);
          })

  module _ (h n : ℕ) (u : row_offset t (suc n) ≤ 2 ^ t.heap_bits) where
    abbrev below-and : ℕ → Bool
    below-and x = in_body t h x && nat_lt x (row_offset t (suc n))

    passes : (x : ℕ) → (below-and x ≡ true) ↔ InBody t h (suc n) x
    passes x = (only, always)
      where
        only : below-and x ≡ true → InBody t h (suc n) x
        only e =
            body-out t T.start_in_direct T.row_in_indirect h n x u (grind (arith, nat_tests))
            (grind (arith, nat_tests))

        always : InBody t h (suc n) x → below-and x ≡ true
        always B =
            let p = body-in t T.start_in_direct T.row_in_indirect h n x u B in
            grind (arith, nat_tests, p.0, p.1)

    held : BodiesCounted t h (suc n)
    held = record {
      in_rows = λ x B. (body-in t T.start_in_direct T.row_in_indirect h n x u B).0;
      test = below-and;
      passes_bodies = passes;
      any_as_many = λ q Q.
          count-ext q (in_body t h) (row_offset t (suc n)) (λ x l. same-test (q x) (in_body t h x)
          (λ e. (body-in t T.start_in_direct T.row_in_indirect h n x u ((Q x).0 e)).1)
          (λ e. (Q x).1 (body-out t T.start_in_direct T.row_in_indirect h n x u l e)))
          ∙ bodies t h T.start_in_direct T.row_in_indirect (suc n) u;
    }

pub slots-ordered : SlotsOrdered
slots-ordered t g k = in-order t g k

pub slots-of-format : SlotsOfFormat
slots-of-format t T s z = of-format t T s z

pub bodies-held : BodiesHeld
bodies-held t T h zero p u = absurd (omega arith)
bodies-held t T h (suc n) p u = held t T h n u
