-- Counts of slots by size: over lists in parts, times their sizes together, and against the format's slots.
use Rattle.std.proofs.Common.{ℕ, zero, suc, ◌+◌, ◌-◌, ◌*◌, ◌^◌, ◌≤◌, ◌<◌, ◌≡◌, zero-le, refl, sym, ap, ◌∙◌}
use Rattle.std.proofs.Common.{Bool, true, false, ◌&&◌, ◌||◌, List, [], ◌∷◌, ◌++◌, length, inl, inr, arith}
use Rattle.std.proofs.Math.Nat.{add-zero}
use Rattle.std.proofs.lemmas.Bool.{cases_eq, cases_lt}
use Rattle.std.proofs.lemmas.Bool.Decides.{nat_tests}
use Rattle.std.specs.Prelude.{nat_eq, nat_le, nat_lt, slice_index, if◌then◌else◌}
use Rattle.numbers.specs.Sums.{sum}
use Rattle.table.specs.Table.{Table, row_offset}
use Rattle.table.specs.Slots.{Direct, own, inner}
use Rattle.table_laws.specs.Laws.{IsTable}
use Rattle.table_laws.specs.Count.{count}
use Rattle.table_laws.proofs.Counting.{count-ext, count_none, count-or, count-interval}
use Rattle.slot_walk.specs.HeapOrder.{sizes, of_size, of_sizes, bytes_of}
use Rattle.slot_walk.specs.Laws.{SlotsOfSize, SlotsCounted, CountsFill}
use Rattle.slot_walk.proofs.Rows.{pow-same}
use Rattle.slot_walk.proofs.Sums.{sizes-sum}
use Rattle.slot_walk.proofs.Listing.{Among, now, after, among-direct, direct-is-among, some-each}

pub of-size-append : (z : ℕ) (xs ys : List ℕ) → of_size z (xs ++ ys) ≡ of_size z xs + of_size z ys
unfolding of_size
of-size-append z [] ys = omega arith
of-size-append z (x ∷ xs) ys = grind (arith, nat_tests, of-size-append z xs ys)

pub of-size-one : (y z : ℕ) → y ≡ z → of_size z (y ∷ []) ≡ 1
unfolding of_size
of-size-one y z e = grind (arith, nat_tests)

pub of-size-none : (y z : ℕ) → (y ≡ z → ⊥) → of_size z (y ∷ []) ≡ 0
unfolding of_size
of-size-none y z e = grind (arith, nat_tests)

-- slots of z bytes take at least as many bytes as there are slots
pub of-size-le : (z : ℕ) (xs : List ℕ) → 0 < z → of_size z xs ≤ sum xs
unfolding of_size sum
of-size-le z [] p = zero-le
of-size-le z (x ∷ xs) p = grind (arith, nat_tests, of-size-le z xs p)

-- ---- the list of counts

pub of-sizes-length : (b k : ℕ) (ss : List ℕ) → length (of_sizes b k ss) ≡ k
unfolding of_sizes
of-sizes-length b zero ss = refl
of-sizes-length b (suc k) ss = ap suc (of-sizes-length (suc b) k ss)

pub of-sizes-at : (b k i : ℕ) (ss : List ℕ) → i < k → slice_index (of_sizes b k ss) i ≡ of_size (2 ^ (b + i)) ss
unfolding of_sizes
of-sizes-at b zero i ss l = absurd (omega arith)
of-sizes-at b (suc k) zero ss l = ap (λ (y : ℕ). of_size (2 ^ y) ss) (sym (add-zero b))
of-sizes-at b (suc k) (suc i) ss l =
    of-sizes-at (suc b) k i ss (omega arith)
    ∙ ap (λ (y : ℕ). of_size (2 ^ y) ss) (let e : suc b + i ≡ b + suc i = omega arith in e)

-- ---- counts times sizes

module _ (s : ℕ) (ss : List ℕ) where
  other-size : (b j : ℕ) → s ≡ 2 ^ j → (j ≡ b → ⊥) → of_size (2 ^ b) (s ∷ ss) ≡ of_size (2 ^ b) ss
  unfolding of_size
  other-size b j e n = let m : s ≡ 2 ^ b → ⊥ = λ q. n (pow-same j b (sym e ∙ q)) in grind (arith, nat_tests)

  same_size : (b : ℕ) → s ≡ 2 ^ b → of_size (2 ^ b) (s ∷ ss) ≡ suc (of_size (2 ^ b) ss)
  unfolding of_size
  same_size b e = grind (arith, nat_tests)

  -- a slot smaller than all the sizes counts in none
  bytes_small : (b k j : ℕ) → s ≡ 2 ^ j → j < b → bytes_of b (of_sizes b k (s ∷ ss)) ≡ bytes_of b (of_sizes b k ss)
  unfolding bytes_of of_sizes
  bytes_small b zero j e l = refl
  bytes_small b (suc k) j e l =
      let d = ap (λ (y : ℕ). y * 2 ^ b) (other-size b j e (λ q. omega arith)) in
      omega (arith, bytes_small (suc b) k j e (omega arith))

  -- one of the sizes counts once
  bytes_one : (b k j : ℕ) → s ≡ 2 ^ j → b ≤ j → j < b + k
      → bytes_of b (of_sizes b k (s ∷ ss)) ≡ s + bytes_of b (of_sizes b k ss)
  unfolding bytes_of of_sizes
  bytes_one b zero j e l u = absurd (omega arith)
  bytes_one b (suc k) j e l u =
      elim (cases_lt b j) [
        | inl m ↦
            let d = ap (λ (y : ℕ). y * 2 ^ b) (other-size b j e (λ q. omega arith)) in
            omega (arith, bytes_one (suc b) k j e m (omega arith))
        | inr m ↦
            let p : s ≡ 2 ^ b = e ∙ ap (λ (y : ℕ). 2 ^ y) (let q : j ≡ b = omega arith in q) in
            let d = ap (λ (y : ℕ). y * 2 ^ b) (same_size b p) in
            omega (arith, bytes_small (suc b) k j e (omega arith))
      ]

-- a size of the table
record Sized (b k z : ℕ) : Type 0 where
  bits : ℕ
  size_is : z ≡ 2 ^ bits
  lo : b ≤ bits
  hi : bits < b + k

bytes-none : (b k : ℕ) → bytes_of b (of_sizes b k []) ≡ 0
unfolding bytes_of of_sizes of_size
bytes-none b zero = refl
bytes-none b (suc k) = omega (arith, bytes-none (suc b) k)

bytes-all : (b k a : ℕ) (ys : List ℕ) → ((s z : ℕ) → Among s z a ys → Sized b k z)
    → bytes_of b (of_sizes b k ys) ≡ sum ys
unfolding sum
bytes-all b k a [] h = bytes-none b k
bytes-all b k a (y ∷ ys) h =
    let S = h a y (now refl refl) in
    bytes_one y ys b k S.bits S.size_is S.lo S.hi
    ∙ ap (λ (v : ℕ). y + v) (bytes-all b k (a + y) ys (λ s z m. h s z (after m)))

direct-sized : (t : Table) (k : ℕ) {n s z : ℕ} → t.direct_bits < t.start_bits + k → Direct t n s z
    → Sized t.start_bits k z
direct-sized t k h (own r c l d u e f) =
    record { bits = t.start_bits + (r - 1); size_is = f; lo = omega arith; hi = omega arith }
direct-sized t k h (inner r c s' l d u e D) = direct-sized t k h D

pub counts-fill : CountsFill
counts-fill t T k n h =
    bytes-all t.start_bits k 0 (sizes t n) (λ s z m.
    direct-sized t k h (among-direct t T.start_in_direct T.row_in_indirect n m))
    ∙ sizes-sum t T.start_in_direct T.row_in_indirect n

-- ---- of the format's slots there are as many

-- whether a slot of z bytes begins at x
starts : (z a : ℕ) → List ℕ → ℕ → Bool
starts z a [] x = false
starts z a (y ∷ ys) x = (nat_eq x a && nat_eq y z) || starts z (a + y) ys x

starts-from : (z a : ℕ) (ys : List ℕ) (x : ℕ) → starts z a ys x ≡ true → a ≤ x
unfolding starts
starts-from z a [] x h = absurd cc
starts-from z a (y ∷ ys) x h = grind (arith, nat_tests, starts-from z (a + y) ys x)

starts-among : (z a : ℕ) (ys : List ℕ) (x : ℕ) → starts z a ys x ≡ true → Among x z a ys
unfolding starts
starts-among z a [] x h = absurd cc
starts-among z a (y ∷ ys) x h = go (nat_eq x a && nat_eq y z) refl h (starts-among z (a + y) ys x)
  where
    go : (b : Bool) → (nat_eq x a && nat_eq y z) ≡ b → (b || starts z (a + y) ys x) ≡ true
        → (starts z (a + y) ys x ≡ true → Among x z (a + y) ys) → Among x z a (y ∷ ys)
    go true e h i = now (grind (arith, nat_tests)) (grind (arith, nat_tests))
    go false e h i = after (i h)

among-starts : {x z : ℕ} (a : ℕ) (ys : List ℕ) → Among x z a ys → starts z a ys x ≡ true
unfolding starts
among-starts a [] m = elim m [ ]
among-starts a (y ∷ ys) (now e f) = grind (arith, nat_tests)
among-starts a (y ∷ ys) (after m) = grind (arith, nat_tests, among-starts (a + y) ys m)

-- the first of them
first-count : (z a y n : ℕ) → 0 < y → a < n → count (λ x. nat_eq x a && nat_eq y z) n ≡ (if nat_eq y z then 1 else 0)
first-count z a y n p l =
    elim (cases_eq y z) [
      | inl e ↦
          count-ext (λ x. nat_eq x a && nat_eq y z) (λ x. nat_le a x && nat_lt x (a + 1)) n
          (λ x u. grind (arith, nat_tests))
          ∙ count-interval a 1 n (omega arith)
          ∙ grind (arith, nat_tests)
      | inr e ↦
          count_none (λ x. nat_eq x a && nat_eq y z) n (λ x u. grind (arith, nat_tests)) ∙ grind (arith, nat_tests)
    ]

starts-count : (z a : ℕ) (ys : List ℕ) → ((s v : ℕ) → Among s v a ys → 0 < v)
    → count (starts z a ys) (a + sum ys) ≡ of_size z ys
unfolding starts of_size sum
starts-count z a [] h = count_none (starts z a []) (a + 0) (λ x u. refl)
starts-count z a (y ∷ ys) h =
    let p = h a y (now refl refl) in
    let later = starts-count z (a + y) ys (λ s v m. h s v (after m)) in
    let n : a + (y + sum ys) ≡ a + y + sum ys = omega arith in
    ap (count (starts z a (y ∷ ys))) n
    ∙ count-or (λ x. nat_eq x a && nat_eq y z) (starts z (a + y) ys) (a + y + sum ys)
    (λ x u. grind (arith, nat_tests, starts-from z (a + y) ys x))
    ∙ grind (arith, nat_tests, later, first-count z a y (a + y + sum ys) p (omega arith))

same-test : (a b : Bool) → (a ≡ true → b ≡ true) → (b ≡ true → a ≡ true) → a ≡ b
same-test a b f g = grind arith

module _ (t : Table) (T : IsTable t) (n z : ℕ) where
  there : (s : ℕ) → starts z 0 (sizes t n) s ≡ true → Direct t n s z
  there s h = among-direct t T.start_in_direct T.row_in_indirect n (starts-among z 0 (sizes t n) s h)

  back : (s : ℕ) → Direct t n s z → starts z 0 (sizes t n) s ≡ true
  back s D = among-starts 0 (sizes t n) (direct-is-among t T.start_in_direct T.row_in_indirect D)

  of-format : SlotsOfSize t n z (of_size z (sizes t n))
  of-format = record {
    test = starts z 0 (sizes t n);
    passes = λ s. (there s, back s);
    every = λ q Q.
        let N = sizes-sum t T.start_in_direct T.row_in_indirect n in
        count-ext q (starts z 0 (sizes t n)) (row_offset t n)
        (λ x l. same-test (q x) (starts z 0 (sizes t n) x) (λ e. back x ((Q x).0 e)) (λ e. (Q x).1 (there x e)))
        ∙ ap (count (starts z 0 (sizes t n))) (let e : row_offset t n ≡ 0 + sum (sizes t n) = omega arith in e)
        ∙ starts-count z 0 (sizes t n) (some-each t T.start_in_direct T.row_in_indirect n);
  }

pub slots-counted : SlotsCounted
slots-counted t T n z = of-format t T n z
