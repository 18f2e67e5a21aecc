-- The bodies of the slots of n rows hold `capacity` offsets.
use Rattle.std.proofs.Common.{ℕ, zero, suc, ◌+◌, ◌-◌, ◌*◌, ◌%◌, ◌^◌, ◌≤◌, ◌<◌, ◌≡◌, refl, sym, ap, ◌∙◌, inl, inr, Bool}
use Rattle.std.proofs.Common.{le_trans, mul-le-mul_right, pow_mono, arith}
use Rattle.std.proofs.Math.Nat.{mul-add-mod_self_right}
use Rattle.std.proofs.lemmas.Bool.{cases_lt}
use Rattle.std.proofs.lemmas.Nat.{pow_pos, mod_low}
use Rattle.std.specs.Prelude.{nat_le}
use Rattle.table.specs.Table.{Table, row_bits, row_offset}
use Rattle.table.specs.Slots.{slot_bits}
use Rattle.numbers.specs.Sums.{sum}
use Rattle.table.specs.Capacity.{capacities, capacity}
use Rattle.table.proofs.Powers.{pow-split}
use Rattle.table.proofs.Rows.{Top, Row, row, row-mono, slot-rows}
use Rattle.table.proofs.Slots.{top, sub, slotted-unique, slotted-hi, slot-bits-is}
use Rattle.table.proofs.Capacity.{row_capacity, capacity-suc, capacity-direct, capacity-indirect}
use Rattle.table_laws.specs.Count.{count}
use Rattle.table_laws.proofs.Counting.{count-ext, count-blocks, count-from}
use Rattle.table_laws.proofs.Format.{in_body}

-- a remainder by a smaller power is the remainder's
part-mod : (q b c y : ℕ) → c ≤ b → (q * 2 ^ b + y) % 2 ^ c ≡ y % 2 ^ c
part-mod q b c y l =
    let e : q * 2 ^ b ≡ (q * 2 ^ (b - c)) * 2 ^ c = grind (arith, pow-split l) in
    rw e (mul-add-mod_self_right (q * 2 ^ (b - c)) (2 ^ c) y)

module _ (t : Table) (h : ℕ) (g : t.start_bits ≤ t.direct_bits) where
  module _ {q b : ℕ} (y : ℕ) (T : Top t q b) (l : y < 2 ^ b) (s : q * 2 ^ b + y < 2 ^ t.heap_bits) where
    -- in a direct block the body begins h bytes on
    body_direct : b ≤ t.direct_bits → in_body t h (q * 2 ^ b + y) ≡ nat_le h y
    body_direct d =
        let x = q * 2 ^ b + y in
        let e : slot_bits t x ≡ b = sym (slotted-unique t (top q b y T d l refl) x _ refl (slot-bits-is t x g s)) in
        ap (λ (c : ℕ). nat_le h (x % 2 ^ c)) e ∙ ap (nat_le h) (mod_low q b y l)

    -- in an indirect one the bodies are those of its own table
    body-indirect : t.direct_bits < b → in_body t h (q * 2 ^ b + y) ≡ in_body t h y
    body-indirect d =
        let x = q * 2 ^ b + y in
        let r = slot-bits-is t y g (omega arith) in
        let own = sub q b y T d l refl r in
        let e : slot_bits t y ≡ slot_bits t x = slotted-unique t own x _ refl (slot-bits-is t x g s) in
        ap (λ (c : ℕ). nat_le h (x % 2 ^ c)) (sym e)
        ∙ ap (nat_le h) (part-mod q b (slot_bits t y) y (slotted-hi t r b T.lo l))

  -- the body of the slot at 0
  pub first_body : (x : ℕ) → t.start_bits ≤ t.heap_bits → x < 2 ^ t.start_bits → in_body t h x ≡ nat_le h x
  first_body x k u =
      let T : Top t 0 t.start_bits =
      record { lo = omega arith; up = pow_pos (suc t.width_bits); hi = λ z. absurd (omega arith) } in
      ap (in_body t h) (let e : x ≡ 0 * 2 ^ t.start_bits + x = omega arith in e)
      ∙ body_direct x T u (omega (arith, pow_mono k)) g

  pub first-bodies : t.start_bits ≤ t.heap_bits → count (in_body t h) (2 ^ t.start_bits) ≡ 2 ^ t.start_bits - h
  first-bodies k =
      count-ext (in_body t h) (λ x. nat_le h x) (2 ^ t.start_bits) (λ x u. first_body x k u)
      ∙ count-from h (2 ^ t.start_bits)

  module _ (w : t.width_bits + t.start_bits ≤ suc t.direct_bits) where
    -- the rows before each m up to n hold their capacity
    abbrev Upto : ℕ → Type 0
    Upto n = (m : ℕ) → m ≤ n → count (in_body t h) (row_offset t m) ≡ capacity t h m

    slot-count : (n j : ℕ) → j < 2 ^ t.width_bits → row_offset t (suc n) ≤ 2 ^ t.heap_bits → Upto n
        → count (λ x. in_body t h (row_offset t n + j * 2 ^ row_bits t n + x)) (2 ^ row_bits t n) ≡ row_capacity t h n
    slot-count n j l s ih =
        elim (cases_lt t.direct_bits (row_bits t n)) [
          | inl d ↦
              count-ext (at n j) (in_body t h) (2 ^ row_bits t n)
              (λ y u. ap (in_body t h) (place y) ∙ body-indirect y (r.tops j l) u (inside y u) d)
              ∙ ap (count (in_body t h)) (slot-rows t n g w d)
              ∙ ih (n - t.width_bits) (omega arith)
              ∙ sym (capacity-indirect t h n d)
          | inr d ↦
              count-ext (at n j) (λ x. nat_le h x) (2 ^ row_bits t n)
              (λ y u. ap (in_body t h) (place y) ∙ body_direct y (r.tops j l) u (inside y u) d)
              ∙ count-from h (2 ^ row_bits t n)
              ∙ sym (capacity-direct t h n d)
        ]
      where
        at : ℕ → ℕ → ℕ → Bool
        at n j x = in_body t h (row_offset t n + j * 2 ^ row_bits t n + x)

        r : Row t n
        r = row t n

        place : (y : ℕ) → row_offset t n + j * 2 ^ row_bits t n + y ≡ (r.m + j) * 2 ^ row_bits t n + y
        place y = omega (arith, r.begins)

        inside : (y : ℕ) → y < 2 ^ row_bits t n → (r.m + j) * 2 ^ row_bits t n + y < 2 ^ t.heap_bits
        inside y u =
            let b = row_bits t n in
            let fits : suc j * 2 ^ b ≤ 2 ^ t.width_bits * 2 ^ b = mul-le-mul_right (2 ^ b) l in
            omega (arith, r.begins, r.ends)

    row_count : (n : ℕ) → row_offset t (suc n) ≤ 2 ^ t.heap_bits → Upto n
        → count (in_body t h) (row_offset t (suc n)) ≡ capacity t h (suc n)
    row_count n s ih =
        ap (count (in_body t h)) (row t n).ends
        ∙ count-blocks (in_body t h) (row_offset t n) (2 ^ row_bits t n) (row_capacity t h n) (2 ^ t.width_bits)
        (λ j l. slot-count n j l s ih)
        ∙ omega (arith, ih n (omega arith), capacity-suc t h n)

    upto : (n : ℕ) → row_offset t n ≤ 2 ^ t.heap_bits → Upto n
    upto zero s m l =
        rw (let e : m ≡ 0 = omega arith in e) (unfold count capacities sum in omega arith)
    upto (suc n) s m l =
        let ih = upto n (le_trans (row-mono t n (suc n) (omega arith)) s) in
        elim (cases_lt n m) [
          | inl d ↦ rw (let e : m ≡ suc n = omega arith in e) (row_count n s ih)
          | inr d ↦ ih m d
        ]

    -- n rows hold as many object bytes as there are offsets in the bodies of their slots
    pub bodies : (n : ℕ) → row_offset t n ≤ 2 ^ t.heap_bits → count (in_body t h) (row_offset t n) ≡ capacity t h n
    bodies n s = upto n s n (omega arith)
