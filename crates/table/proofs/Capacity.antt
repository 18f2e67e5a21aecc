-- The capacities of rows: sums of front parts, the bound by what the rows span, the array that is filled
-- upward.
use Rattle.std.proofs.Common.{ℕ, zero, suc, ◌+◌, ◌-◌, ◌*◌, ◌^◌, ◌≤◌, ◌<◌, ◌≡◌, zero-le, refl, sym, ap, ap₂, ◌∙◌, inl}
use Rattle.std.proofs.Common.{inr}
use Rattle.std.proofs.Common.{List, [], ◌∷◌, ◌++◌, length, take, set, replicate, length-append, length-set, take_all}
use Rattle.std.proofs.Common.{take-suc-set, take-take, get_or-set_other, le_trans, mul-le-mul_left, add-one, pow_mono}
use Rattle.std.proofs.Common.{arith}
use Rattle.std.proofs.lemmas.Bool.{cases_lt}
use Rattle.std.proofs.lemmas.Bool.Decides.{nat_tests}
use Rattle.std.proofs.lemmas.List.{take-append-le, take-set-le}
use Rattle.std.specs.Prelude.{nat_le, if◌then◌else◌, slice_index}
use Rattle.table.specs.Table.{Table, fixed, row_bits, row_offset}
use Rattle.numbers.specs.Sums.{sum}
use Rattle.numbers.proofs.Sums.{sum-append, sum-take-suc, sum-take-le}
use Rattle.table.specs.Capacity.{block_capacity, capacities, capacity}
use Rattle.table.proofs.Rows.{row, row-mono, slot-rows}

module _ (t : Table) (h : ℕ) where
  length-capacities : (n : ℕ) → length (capacities t h n) ≡ n
  unfolding capacities
  length-capacities zero = refl
  length-capacities (suc n) = omega (arith, length-append {A = ℕ}, length-capacities n)

  pub take-capacities : (k n : ℕ) → k ≤ n → take k (capacities t h n) ≡ capacities t h k
  unfolding capacities
  take-capacities k zero l = rw (let e : k ≡ 0 = omega arith in e) refl
  take-capacities k (suc n) l =
      let z = length-capacities n in
      elim (cases_lt n k) [
        | inl g ↦
            take_all k (capacities t h (suc n)) (omega (arith, length-capacities (suc n)))
            ∙ ap (capacities t h) (let e : suc n ≡ k = omega arith in e)
        | inr g ↦ take-append-le k (capacities t h n) _ (omega arith) ∙ take-capacities k n g
      ]

  -- what a block of row n holds
  abbrev pub row_capacity : ℕ → ℕ
  row_capacity n = block_capacity t h n (capacities t h n)

  pub capacity-suc : (n : ℕ) → capacity t h (suc n) ≡ capacity t h n + 2 ^ t.width_bits * row_capacity n
  unfolding capacities sum
  capacity-suc n = grind (arith, sum-append (capacities t h n) (row_capacity n ∷ []))

  pub capacity-direct : (n : ℕ) → row_bits t n ≤ t.direct_bits → row_capacity n ≡ 2 ^ row_bits t n - h
  capacity-direct n l = grind (arith, nat_tests)

  pub capacity-indirect : (n : ℕ) → t.direct_bits < row_bits t n → row_capacity n ≡ capacity t h (n - t.width_bits)
  capacity-indirect n l = grind (arith, nat_tests, take-capacities (n - t.width_bits) n)

  module _ (g : t.start_bits ≤ t.direct_bits) (w : t.width_bits + t.start_bits ≤ suc t.direct_bits) where
    block-le : (n : ℕ) → ((m : ℕ) → m ≤ n → capacity t h m ≤ row_offset t m) → row_capacity n ≤ 2 ^ row_bits t n
    block-le n ih =
        elim (cases_lt t.direct_bits (row_bits t n)) [
          | inl d ↦
              omega (arith, capacity-indirect n d, slot-rows t n g w d, ih (n - t.width_bits) (omega arith))
          | inr d ↦ omega (arith, capacity-direct n d)
        ]

    below-le : (n m : ℕ) → m ≤ n → capacity t h m ≤ row_offset t m
    below-le zero m l = rw (let e : m ≡ 0 = omega arith in e) (unfold capacities sum in omega arith)
    below-le (suc n) m l =
        elim (cases_lt n m) [
          | inl d ↦
              let e : m ≡ suc n = omega arith in
              let one : 2 ^ t.width_bits * row_capacity n ≤ 2 ^ t.width_bits * 2 ^ row_bits t n =
              mul-le-mul_left (2 ^ t.width_bits) (block-le n (below-le n)) in
              rw e (omega (arith, capacity-suc n, (row t n).ends, below-le n n (omega arith), one))
          | inr d ↦ below-le n m d
        ]

    -- rows hold no more than they span
    capacity-le : (n : ℕ) → capacity t h n ≤ row_offset t n
    capacity-le n = below-le n n (omega arith)

-- ---- the fixed table

pub capacity-small : (h n : ℕ) → n ≤ 29 → capacity fixed h n ≤ 2 ^ 40
capacity-small h n l =
    let m : row_offset fixed n ≤ 2 ^ 40 = row-mono fixed n 29 l in
    le_trans (capacity-le fixed h (omega arith) (omega arith) n) m

sum-small : (h n : ℕ) → n ≤ 29 → 4 * sum (capacities fixed h n) ≤ 2 ^ 40
sum-small h n l = capacity-small h n l

pub row_size_ge : (r : ℕ) → 1024 ≤ 2 ^ row_bits fixed r
row_size_ge r = pow_mono (let e : 10 ≤ 10 + (r - 1) = omega arith in e)

-- the rows before r are filled, and `below` is what one block of each of the rows that fill a slot of row r holds
pub record Filling (h : ℕ) (l : List ℕ) (below r : ℕ) : Type 0 where
  pub two : 2 ≤ r
  pub most : r ≤ 29
  pub places : length l ≡ 29
  pub front : take r l ≡ capacities fixed h r
  pub sums : below ≡ sum (take (r - 2) l)

two-rows : (h : ℕ) → (1024 - h) ∷ (1024 - h) ∷ [] ≡ capacities fixed h 2
unfolding capacities
two-rows h = refl

pub filling-start : (h : ℕ) → Filling h (replicate 29 (1024 - h)) 0 2
unfolding sum
filling-start h = record { two = omega arith; most = omega arith; places = refl; front = two-rows h; sums = refl }

module _ {h : ℕ} {l : List ℕ} {below r : ℕ} (I : Filling h l below r) where
  front-part : take (r - 2) l ≡ take (r - 2) (capacities fixed h r)
  front-part = sym (take-take (r - 2) r l (omega arith)) ∙ ap (take (r - 2)) I.front

  pub filling-small : below ≤ 2 ^ 38
  filling-small =
      let s = ap sum (front-part ∙ take-capacities fixed h (r - 2) r (omega arith)) in
      omega (arith, I.most, I.sums, s, sum-small h (r - 2) (omega (arith, I.most)))

  module _ (u : r < 29) (v : ℕ)
      (p : v ≡ (if nat_le (row_bits fixed r) 16 then 2 ^ row_bits fixed r - h else 4 * below)) where
    value-is : v ≡ block_capacity fixed h r (capacities fixed h r)
    value-is = grind (arith, nat_tests, p, I.sums, ap sum front-part)

    front-is : take (r + 1) (set l r v) ≡ capacities fixed h (r + 1)
    unfolding capacities
    front-is =
        let e = take-suc-set l r v (omega (arith, I.places)) in
        rw add-one (e ∙ ap₂ (λ (x : List ℕ) (y : ℕ). x ++ (y ∷ [])) I.front value-is)

    pub filling-more : Filling h (set l r v) (below + slice_index (set l r v) (r - 2)) (r + 1)
    filling-more =
        let m = r - 2 in
        let two = I.two in
        let e : r + 1 - 2 ≡ m + 1 = omega arith in
        let k : take (r + 1 - 2) (set l r v) ≡ take (m + 1) l =
        ap (λ (i : ℕ). take i (set l r v)) e ∙ take-set-le (m + 1) l r v (omega arith) in
        let o : slice_index (set l r v) m ≡ slice_index l m = get_or-set_other l r m v 0 (λ q. absurd (omega arith)) in
        record {
          two = omega arith;
          most = omega arith;
          places = length-set l r v ∙ I.places;
          front = front-is;
          sums = omega (arith, I.sums, o, ap sum k, sum-take-suc l m (omega (arith, I.places)));
        }

-- ---- the sum over some rows

pub record Adding (l : List ℕ) (n total r : ℕ) : Type 0 where
  pub inside : r ≤ n
  pub places : length l ≡ 29
  pub so_far : total ≡ sum (take r l)

pub adding-start : (l : List ℕ) (n : ℕ) → length l ≡ 29 → Adding l n 0 0
unfolding sum
adding-start l n e = record { inside = zero-le; places = e; so_far = refl }

module _ {l : List ℕ} {n total r : ℕ} (I : Adding l n total r) where
  pub adding-le : total ≤ sum (take n l)
  adding-le = omega (arith, I.so_far, sum-take-le l r n I.inside)

  pub adding-more : r < n → n ≤ 29 → Adding l n (total + slice_index l r) (r + 1)
  adding-more u v = record {
    inside = omega arith;
    places = I.places;
    so_far = omega (arith, I.so_far, sum-take-suc l r (omega (arith, I.places)));
  }
