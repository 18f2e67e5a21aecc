-- The plain list of slots is exactly the format's (`Direct`), ascending and without gaps.
use Rattle.std.proofs.Common.{ℕ, zero, suc, ◌+◌, ◌-◌, ◌*◌, ◌^◌, ◌≤◌, ◌<◌, ◌≡◌, refl, sym, ap, ◌∙◌, subst}
use Rattle.std.proofs.Common.{◌⊎◌, inl, inr, List, [], ◌∷◌, ◌++◌, length, get_or, arith}
use Rattle.std.proofs.Math.Nat.{zero-add, add-zero}
use Rattle.std.proofs.lemmas.Bool.{cases_lt}
use Rattle.std.proofs.lemmas.Nat.{pow_pos}
use Rattle.std.specs.List.{Contains}
use Rattle.numbers.specs.Sums.{sum}
use Rattle.table.specs.Table.{Table, row_bits, row_offset}
use Rattle.table.specs.Slots.{Direct, own, inner}
use Rattle.table.specs.declared.Slot.{Slot}
use Rattle.table.proofs.Rows.{row}
use Rattle.slot_walk.specs.Laws.{Listed, SlotsListed}
use Rattle.slot_walk.specs.HeapOrder.{copies, slot_sizes, row_sizes, sizes, slots_from, slots, Chain, none, more}
use Rattle.slot_walk.proofs.Sums.{slot-own, slot-block, block-rows, sizes-sum, slot-sum, row-sum}

-- a slot of z bytes at s is among slots of the given sizes that follow each other from a on
pub data Among (s z : ℕ) : ℕ → List ℕ → Type 0 where
  now : {a y : ℕ} {ys : List ℕ} → s ≡ a → z ≡ y → Among s z a (y ∷ ys)
  after : {a y : ℕ} {ys : List ℕ} → Among s z (a + y) ys → Among s z a (y ∷ ys)

none-among : {s z a : ℕ} → Among s z a [] → ⊥
none-among h = elim h [ ]

pub among-at : {s z a : ℕ} {ys : List ℕ} (b : ℕ) → a ≡ b → Among s z a ys → Among s z b ys
among-at b p (now e f) = now (e ∙ p) f
among-at b p (after {y = y} m) = after (among-at (b + y) (ap (λ (k : ℕ). k + y) p) m)

among-left : {s z a : ℕ} {xs : List ℕ} (ys : List ℕ) → Among s z a xs → Among s z a (xs ++ ys)
among-left ys (now e f) = now e f
among-left ys (after m) = after (among-left ys m)

among-right : {s z : ℕ} (a : ℕ) (xs : List ℕ) {ys : List ℕ} → Among s z (a + sum xs) ys → Among s z a (xs ++ ys)
unfolding sum
among-right a [] m = among-at a (add-zero a) m
among-right a (x ∷ xs) m = after (among-right (a + x) xs (among-at (a + x + sum xs) (omega arith) m))

among_one : {s z a y : ℕ} {ys : List ℕ} → Among s z a (y ∷ ys) → ((s ≡ a) × (z ≡ y)) ⊎ Among s z (a + y) ys
among_one (now e f) = inl (e, f)
among_one (after m) = inr m

among_cases : {s z : ℕ} (a : ℕ) (xs : List ℕ) {ys : List ℕ} → Among s z a (xs ++ ys)
    → Among s z a xs ⊎ Among s z (a + sum xs) ys
unfolding sum
among_cases a [] m = inr (among-at (a + 0) (omega arith) m)
among_cases {s} {z} a (x ∷ xs) {ys} m =
    elim (among_one m) [
      | inl p ↦ inl (now p.0 p.1)
      | inr n ↦ elim (among_cases (a + x) xs n) [
        | inl l ↦ inl (after l)
        | inr r ↦ inr (among-at (a + (x + sum xs)) (omega arith) r)
      ]
    ]

pub among-list : {s z a : ℕ} {xs ys : List ℕ} → xs ≡ ys → Among s z a xs → Among s z a ys
among-list {s} {z} {a} e m = subst (Among s z a) e m

pub among-is : (s s' : ℕ) {z a : ℕ} {ys : List ℕ} → s ≡ s' → Among s z a ys → Among s' z a ys
among-is s s' p (now e f) = now (sym p ∙ e) f
among-is s s' p (after m) = after (among-is s s' p m)

-- ---- in the list of slots

slots-among : (a : ℕ) (ys : List ℕ) (x : Slot) (k : ℕ) → k < length (slots_from a ys)
    → get_or (slots_from a ys) k x ≡ x → Among x.start x.size a ys
unfolding slots_from
slots-among a [] x k l e = absurd (omega arith)
slots-among a (y ∷ ys) x zero l e = now (sym (ap (λ (s : Slot). s.start) e)) (sym (ap (λ (s : Slot). s.size) e))
slots-among a (y ∷ ys) x (suc k) l e = after (slots-among (a + y) ys x k (omega arith) e)

one-more : (y : Slot) (ys : List Slot) (x : Slot) → Contains ys x → Contains (y ∷ ys) x
one-more y ys x c = (suc c.0, omega (arith, c.1), c.2)

among-slots : {s z a : ℕ} {ys : List ℕ} → Among s z a ys → Contains (slots_from a ys) (record { start = s; size = z })
unfolding slots_from
among-slots (now e f) = let p = sym e in let q = sym f in (0, omega arith, λ i. record { start = p i; size = q i })
among-slots {s} {z} (after {a = a} {y = y} {ys = ys} m) =
    one-more (record { start = a; size = y }) (slots_from (a + y) ys) (record { start = s; size = z }) (among-slots m)

slots-chain-by : (a : ℕ) (ys : List ℕ) (e : ℕ) → a + sum ys ≡ e → ((s z : ℕ) → Among s z a ys → 0 < z)
    → Chain a (slots_from a ys) e
unfolding slots_from sum
slots-chain-by a [] e p h = none (let z : a ≡ e = omega arith in z)
slots-chain-by a (y ∷ ys) e p h =
    more refl (h a y (now refl refl)) (slots-chain-by (a + y) ys e (omega arith) (λ s z m. h s z (after m)))

direct-some : (t : Table) {n s z : ℕ} → Direct t n s z → 0 < z
direct-some t (own r c l d u e f) = omega (arith, pow_pos (row_bits t r))
direct-some t (inner r c s' l d u e D) = direct-some t D

-- ---- one of n copies

record InCopy (s z a n : ℕ) (xs : List ℕ) : Type 0 where
  nth : ℕ
  below : nth < n
  among : Among s z (a + nth * sum xs) xs

to-copies : {s z : ℕ} (a n c : ℕ) (xs : List ℕ) → c < n → Among s z (a + c * sum xs) xs → Among s z a (copies n xs)
unfolding copies
to-copies a zero c xs l m = absurd (omega arith)
to-copies a (suc n) zero xs l m = among-left (copies n xs) (among-at a (omega arith) m)
to-copies a (suc n) (suc c) xs l m =
    among-right a xs
    (to-copies (a + sum xs) n c xs (omega arith) (among-at (a + sum xs + c * sum xs) (omega arith) m))

copy-more : {s z : ℕ} (a n : ℕ) (xs : List ℕ) → InCopy s z (a + sum xs) n xs → InCopy s z a (suc n) xs
copy-more a n xs c = record {
  nth = suc c.nth;
  below = omega (arith, c.below);
  among = among-at (a + suc c.nth * sum xs) (omega arith) c.among;
}

of-copies : {s z : ℕ} (a n : ℕ) (xs : List ℕ) → Among s z a (copies n xs) → InCopy s z a n xs
unfolding copies
of-copies a zero xs m = absurd (none-among m)
of-copies {s} {z} a (suc n) xs m =
    elim (among_cases a xs m) [
      | inl l ↦ record { nth = 0; below = omega arith; among = among-at (a + 0 * sum xs) (omega arith) l }
      | inr r ↦ copy-more a n xs (of-copies (a + sum xs) n xs r)
    ]

module _ (t : Table) (g : t.start_bits ≤ t.direct_bits) (w : t.width_bits + t.start_bits ≤ suc t.direct_bits) where
  -- in a slot of one of the k rows from r on, of a block at a
  record InRows (s z a r k : ℕ) : Type 0 where
    at : ℕ
    col : ℕ
    from : r ≤ at
    to : at < r + k
    within : col < 2 ^ t.width_bits
    among : Among s z (a + row_offset t at + col * 2 ^ row_bits t at) (slot_sizes t (sizes t) at)

  to-rows : {s z : ℕ} (a r k : ℕ) → InRows s z a r k → Among s z (a + row_offset t r) (row_sizes t (sizes t) r k)
  unfolding row_sizes
  to-rows a r zero h = absurd (omega (arith, h.from, h.to))
  to-rows {s} {z} a r (suc k) h =
      elim (cases_lt r h.at) [
        | inl l ↦
            let below = to-rows a (suc r) k
            (record {
              at = h.at;
              col = h.col;
              from = l;
              to = omega (arith, h.to);
              within = h.within;
              among = h.among;
            }) in
            among-right (a + row_offset t r) (copies (2 ^ t.width_bits) xs)
            (among-at (a + row_offset t r + sum (copies (2 ^ t.width_bits) xs))
            (omega (arith, (row t r).ends, row-sum t g w r)) below)
        | inr l ↦
            among-left (row_sizes t (sizes t) (suc r) k)
            (to-copies (a + row_offset t r) (2 ^ t.width_bits) h.col xs h.within
            (here-row (let e : h.at ≡ r = omega (arith, h.from) in e)))
      ]
    where
      xs : List ℕ
      xs = slot_sizes t (sizes t) r

      here-row : h.at ≡ r → Among s z (a + row_offset t r + h.col * sum xs) xs
      here-row e =
          among-at (a + row_offset t r + h.col * sum xs)
          (ap (λ (y : ℕ). a + row_offset t y + h.col * 2 ^ row_bits t y) e
          ∙ ap (λ (y : ℕ). a + row_offset t r + h.col * y) (sym (slot-sum t g w r)))
          (among-list (ap (slot_sizes t (sizes t)) e) h.among)

  rows-more : {s z : ℕ} (a r k : ℕ) → InRows s z a (suc r) k → InRows s z a r (suc k)
  rows-more a r k i = record {
    at = i.at;
    col = i.col;
    from = omega (arith, i.from);
    to = omega (arith, i.to);
    within = i.within;
    among = i.among;
  }

  of-rows : {s z : ℕ} (a r k : ℕ) → Among s z (a + row_offset t r) (row_sizes t (sizes t) r k) → InRows s z a r k
  unfolding row_sizes
  of-rows a r zero m = absurd (none-among m)
  of-rows {s} {z} a r (suc k) m =
      let xs = slot_sizes t (sizes t) r in
      elim (among_cases (a + row_offset t r) (copies (2 ^ t.width_bits) xs) m) [
        | inl l ↦
            let c = of-copies (a + row_offset t r) (2 ^ t.width_bits) xs l in
            record {
              at = r;
              col = c.nth;
              from = omega arith;
              to = omega arith;
              within = c.below;
              among = among-at (a + row_offset t r + c.nth * 2 ^ row_bits t r)
                  (ap (λ (y : ℕ). a + row_offset t r + c.nth * y) (slot-sum t g w r)) c.among;
            }
        | inr n ↦
            rows-more a r k
            (of-rows a (suc r) k
            (among-at (a + row_offset t (suc r)) (omega (arith, (row t r).ends, row-sum t g w r)) n))
      ]

  row-0 : (a : ℕ) → a + row_offset t 0 ≡ a
  row-0 a = add-zero a

  to_block : {s z : ℕ} (a n : ℕ) → InRows s z a 0 n → Among s z a (sizes t n)
  to_block a n h = among-list (sym (block-rows t n)) (among-at a (row-0 a) (to-rows a 0 n h))

  of-block : {s z : ℕ} (a n : ℕ) → Among s z a (sizes t n) → InRows s z a 0 n
  of-block a n m = of-rows a 0 n (among-at (a + row_offset t 0) (sym (row-0 a)) (among-list (block-rows t n) m))

  -- every slot of the format is in the list
  direct-among : {n s z : ℕ} (a : ℕ) → Direct t n s z → Among (a + s) z a (sizes t n)
  direct-among {n} {s} {z} a (own r c l d u e f) =
      to_block a n
      (record {
        at = r;
        col = c;
        from = omega arith;
        to = omega arith;
        within = u;
        among = among-list (sym (slot-own t r d)) (now (omega arith) f);
      })
  direct-among {n} {s} {z} a (inner r c s' l d u e D) =
      let p = a + row_offset t r + c * 2 ^ row_bits t r in
      to_block a n
      (record {
        at = r;
        col = c;
        from = omega arith;
        to = omega arith;
        within = u;
        among = among-list (sym (slot-block t r d)) (among-is (p + s') (a + s) (omega arith) (direct-among p D));
      })

  -- and the list has no other
  pub record Inside (n a s z : ℕ) : Type 0 where
    pub rest : ℕ
    pub sum_is : s ≡ a + rest
    pub direct : Direct t n rest z

  own-inside : {s z : ℕ} (n a : ℕ) (h : InRows s z a 0 n) → row_bits t h.at ≤ t.direct_bits → Inside n a s z
  own-inside {s} {z} n a h d =
      elim (among_one (among-list (slot-own t h.at d) h.among)) [
        | inl p ↦ record {
          rest = row_offset t h.at + h.col * 2 ^ row_bits t h.at;
          sum_is = omega (arith, p.0);
          direct = own h.at h.col (omega (arith, h.to)) d h.within refl p.1;
        }
        | inr q ↦ absurd (none-among q)
      ]

  block-inside : {s z : ℕ} (n a : ℕ) (h : InRows s z a 0 n) → t.direct_bits < row_bits t h.at
      → Inside (h.at - t.width_bits) (a + row_offset t h.at + h.col * 2 ^ row_bits t h.at) s z → Inside n a s z
  block-inside {s} {z} n a h d i = record {
    rest = row_offset t h.at + h.col * 2 ^ row_bits t h.at + i.rest;
    sum_is = omega (arith, i.sum_is);
    direct = inner h.at h.col i.rest (omega (arith, h.to)) d h.within refl i.direct;
  }

  among-direct-by : {s z : ℕ} (f n a : ℕ) → n ≤ f → Among s z a (sizes t n) → Inside n a s z
  among-direct-by {s} {z} zero n a l m = absurd (omega (arith, (of-block a n m).to))
  among-direct-by {s} {z} (suc f) n a l m =
      let h = of-block a n m in
      elim (cases_lt t.direct_bits (row_bits t h.at)) [
        | inl d ↦
            block-inside n a h d
            (among-direct-by f (h.at - t.width_bits) (a + row_offset t h.at + h.col * 2 ^ row_bits t h.at)
            (omega (arith, h.to)) (among-list (slot-block t h.at d) h.among))
        | inr d ↦ own-inside n a h d
      ]

  pub among-direct : {s z : ℕ} (n : ℕ) → Among s z 0 (sizes t n) → Direct t n s z
  among-direct {s} {z} n m =
      let i = among-direct-by n n 0 (omega arith) m in
      subst (λ (y : ℕ). Direct t n y z) (let e : i.rest ≡ s = omega (arith, i.sum_is) in e) i.direct

  pub direct-is-among : {n s z : ℕ} → Direct t n s z → Among s z 0 (sizes t n)
  direct-is-among {n} {s} {z} D = among-is (0 + s) s (zero-add s) (direct-among 0 D)

  pub some-each : (n s z : ℕ) → Among s z 0 (sizes t n) → 0 < z
  some-each n s z m = direct-some t (among-direct n m)

  listed : (n : ℕ) → Listed t n
  listed n = record {
    chain =
        slots-chain-by 0 (sizes t n) (row_offset t n) (zero-add (sum (sizes t n)) ∙ sizes-sum t g w n) (some-each n);
    formats = λ s z. (there s z, λ D. among-slots (direct-is-among D));
  }
    where
      there : (s z : ℕ) → Contains (slots t n) (record { start = s; size = z }) → Direct t n s z
      there s z c = among-direct n (slots-among 0 (sizes t n) (record { start = s; size = z }) c.0 c.1 c.2)

pub slots-listed : SlotsListed
slots-listed t h n = listed t h.start_in_direct h.row_in_indirect n
