-- Both engines name the same slot.
use Rattle.std.proofs.Common.{ℕ, ◌+◌, ◌-◌, ◌*◌, ◌/◌, ◌^◌, ◌≤◌, ◌<◌, ◌≡◌, sym, ap, ap₂, ◌∙◌, inl, inr, arith}
use Rattle.std.proofs.lemmas.Bool.{cases_lt}
use Rattle.std.proofs.lemmas.Bool.Decides.{nat_tests}
use Rattle.std.proofs.lemmas.Nat.{shr_high}
use Rattle.std.specs.Prelude.{Result, Ok, Err, nat_lt}
use Rattle.refusals.specs.declared.FormatError.{FormatError}
use Rattle.refusals.specs.declared.FormatError.TheVariants.{OutsideHeap}
use Rattle.table.specs.Table.{Table, fixed, row_offset}
use Rattle.table.specs.Slots.{Direct, slot_bits, slot_at}
use Rattle.table.specs.declared.Slot.{Slot}
use Rattle.table.proofs.Slots.{slotted-unique, slot-bits-is, same-slot}
use Rattle.table_laws.specs.Laws.{IsTable}
use Rattle.table_laws.proofs.Format.{direct-local, heap-span}
use Rattle.slot_walk.specs.Search.{counted_slot}
use Rattle.slot_walk.proofs.Numbers.{fixed-is-table}
use Rattle.slot_walk.proofs.Searching.{inside, outside}
use Rattle.slot_engines.specs.Engines.{located_slot, agreed, Agree, EnginesAgree}

module _ {t : Table} (T : IsTable t) where
  -- a slot of the format that holds x is x's slot
  pub holds-is : {n s z : ℕ} (x : ℕ) → Direct t n s z → row_offset t n ≤ 2 ^ t.heap_bits → s ≤ x → x < s + z
      → ◌≡◌ {A = Slot} (record { start = s; size = z }) (slot_at t x)
  holds-is {n} {s} {z} x D u lo hi =
      let L = direct-local t T.start_in_direct T.row_in_indirect D in
      let c = L.bits in
      let k = L.nth in
      let y = x - s in
      let yl : y < 2 ^ c = omega (arith, L.size_is) in
      let xe : s + y ≡ x = omega arith in
      let xc : c ≡ slot_bits t x =
      slotted-unique t (same-slot t L.slotted k y L.here yl) x (slot_bits t x) xe
      (slot-bits-is t x T.start_in_direct (omega (arith, L.inside))) in
      let xm : x ≡ k * 2 ^ c + y = omega (arith, L.here) in
      let q : x / 2 ^ c ≡ k = ap (λ (b : ℕ). b / 2 ^ c) xm ∙ shr_high k c y yl in
      let begins : s ≡ x / 2 ^ slot_bits t x * 2 ^ slot_bits t x =
      L.here ∙ ap (λ (b : ℕ). b * 2 ^ c) (sym q) ∙ ap (λ (b : ℕ). x / 2 ^ b * 2 ^ b) xc in
      let spans : z ≡ 2 ^ slot_bits t x = L.size_is ∙ ap (λ (b : ℕ). 2 ^ b) xc in
      λ i. record { start = begins i; size = spans i }

  counted-slot : (x : ℕ) → x < 2 ^ t.heap_bits → counted_slot t x ≡ Ok (slot_at t x)
  counted-slot x l =
      let C = inside T x l in
      let H = C.holds in
      C.counted ∙ ap Ok (holds-is x H.direct (omega (arith, heap-span t T.row_in_heap)) H.from H.to)

  located-inside : (x : ℕ) → x < 2 ^ t.heap_bits → located_slot t x ≡ Ok (slot_at t x)
  located-inside x l = grind (arith, nat_tests)

  located-outside : (x : ℕ) → 2 ^ t.heap_bits ≤ x → located_slot t x ≡ Err (OutsideHeap x)
  located-outside x l = grind (arith, nat_tests)

  pub agree : (x : ℕ) → Agree t x
  agree x = record {
    inside = λ l. (slot_at t x, counted-slot x l, located-inside x l);
    outside = λ l. (outside T x l, located-outside x l);
  }

pub engines-agree : EnginesAgree
engines-agree t T x = agree T x

-- both answers agree exactly below the heap's end
pub fixed-agreed : (x : ℕ) {c l : Result Slot FormatError} → c ≡ counted_slot fixed x → l ≡ located_slot fixed x
    → agreed c l ≡ nat_lt x (2 ^ 40)
fixed-agreed x {c} {l} e f =
    let A = agree fixed-is-table x in
    ap₂ agreed e f ∙ elim (cases_lt x (2 ^ 40)) [
      | inl u ↦
          let S = A.inside u in
          ap₂ agreed S.1 S.2 ∙ grind (arith, nat_tests)
      | inr u ↦
          let S = A.outside u in
          ap₂ agreed S.0 S.1 ∙ grind (arith, nat_tests)
    ]

-- the descent's answer at the fixed table
pub located_below : (x : ℕ) → x < 2 ^ 40 → Ok (slot_at fixed x) ≡ located_slot fixed x
located_below x l = grind (arith, nat_tests)

pub located_above : (x : ℕ) → 2 ^ 40 ≤ x → Err (OutsideHeap x) ≡ located_slot fixed x
located_above x l = grind (arith, nat_tests)
