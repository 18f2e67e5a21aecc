-- The way of the descent is the format's: each block that it enters stands in the one before, and it ends at the slot.
use Rattle.std.proofs.Common.{ℕ, zero, suc, ◌+◌, ◌-◌, ◌*◌, ◌/◌, ◌^◌, ◌≤◌, ◌<◌, ◌≡◌, zero-le, refl, sym, ◌∙◌, subst}
use Rattle.std.proofs.Common.{List, [], ◌∷◌, length, inl, inr, arith, mod-lt, mul-le-mul_right, pow_mono}
use Rattle.std.proofs.Math.Nat.{div-lt_iff_lt-mul}
use Rattle.std.proofs.lemmas.Bool.{cases_lt, le-leb, lt-leb}
use Rattle.std.proofs.lemmas.Bool.Decides.{nat_tests}
use Rattle.std.proofs.lemmas.Nat.{pow_pos, shr_split}
use Rattle.std.proofs.lemmas.Option.{slice_get_past}
use Rattle.std.specs.Prelude.{Option, None, Result, Ok, Err, IfOk, OnOk}
use Rattle.std.specs.List.{slice_get}
use Rattle.refusals.specs.declared.FormatError.{FormatError}
use Rattle.table.specs.Table.{Table, fixed, row_bits, row_offset, row_of, place_of, max_rows}
use Rattle.table.specs.Slots.{Direct, own, inner, slot_start}
use Rattle.table.specs.declared.Slot.{Slot}
use Rattle.table.proofs.Rows.{row, row-lo, row_up, row_lt, row-of-is, row-mono, heap-rows, top-row, slot-start-is}
use Rattle.table.proofs.Rows.{slot-rows}
use Rattle.table_laws.specs.Laws.{IsTable}
use Rattle.table_laws.proofs.Format.{heap-span}
use Rattle.slot_walk.specs.Blocks.{IsNested}
use Rattle.slot_walk.proofs.Numbers.{fixed-is-table}
use Rattle.slot_walk.proofs.Levels.{eight-enough}
use Rattle.slot_engines.specs.Way.{way_in, way, entered_in, Leads, ends, enters, WayLeads, WaysLead}
use Rattle.slot_engines.specs.declared.way.EnteredBlock.{EnteredBlock}
use Rattle.slot_engines.proofs.Agreeing.{holds-is}

-- ---- what a way that the format leads says of its end

-- the slot is a direct one of the block
record Reached (t : Table) (n base s z : ℕ) : Type 0 where
  rest : ℕ
  sum_is : s ≡ base + rest
  direct : Direct t n rest z

module _ {t : Table} {x : ℕ} where
  reached : {n base : ℕ} {ws : List EnteredBlock} {slot : Slot} → Leads t x n base ws slot
      → Reached t n base slot.start slot.size
  reached (ends r c l d u e f lo hi) = record {
    rest = row_offset t r + c * 2 ^ row_bits t r;
    sum_is = omega arith;
    direct = own r c l d u refl f;
  }
  reached (enters b l d u e lo hi i L) =
      let R = reached L in
      record {
        rest = row_offset t b.row + b.col * 2 ^ row_bits t b.row + R.rest;
        sum_is = omega (arith, R.sum_is);
        direct = inner b.row b.col R.rest l d u refl R.direct;
      }

  holds : {n base : ℕ} {ws : List EnteredBlock} {slot : Slot} → Leads t x n base ws slot
      → (slot.start ≤ x) × (x < slot.start + slot.size)
  holds (ends r c l d u e f lo hi) = (lo, hi)
  holds (enters b l d u e lo hi i L) = holds L

  -- fewer blocks are entered than stand in one another
  depth : (levels : ℕ) {n base : ℕ} {ws : List EnteredBlock} {slot : Slot} → IsNested t levels n
      → Leads t x n base ws slot → length ws < levels
  unfolding IsNested
  depth zero N (ends r c l d u e f lo hi) = absurd (omega arith)
  depth zero N (enters b l d u e lo hi i L) = absurd (omega arith)
  depth (suc levels) N (ends r c l d u e f lo hi) = omega arith
  depth (suc levels) N (enters b l d u e lo hi i L) = omega (arith, depth levels (N b.row l d) L)

-- ---- the descent's way leads

module _ (t : Table) (T : IsTable t) where
  -- where an offset lies in its row
  record Placed (x : ℕ) : Type 0 where
    within : (place_of t x).col < 2 ^ t.width_bits
    begins : slot_start t x ≡ row_offset t (row_of t x) + (place_of t x).col * 2 ^ row_bits t (row_of t x)
    from : slot_start t x ≤ x
    to : x < slot_start t x + 2 ^ row_bits t (row_of t x)

  placed : (x : ℕ) → x < 2 ^ t.heap_bits → Placed x
  placed x h =
      let r = row_of t x in
      let b = row_bits t r in
      let y = x - row_offset t r in
      let up = row_up t x (heap-rows t x h) in
      let small : y < 2 ^ t.width_bits * 2 ^ b = omega (arith, (row t r).ends, row-lo t x) in
      record {
        within = grind (arith, div-lt_iff_lt-mul, pow_pos);
        begins = sym (slot-start-is t x);
        from = omega (arith, shr_split x b);
        to = omega (arith, shr_split x b, mod-lt x (pow_pos b));
      }

  record Led (offset n base : ℕ) (ws : List EnteredBlock) : Type 0 where
    slot : Slot
    leads : Leads t offset n base ws slot

  module _ (offset n base x : ℕ) (e : base + x ≡ offset) (u : x < row_offset t n) (h : x < 2 ^ t.heap_bits) where
    abbrev r : ℕ
    r = row_of t x

    abbrev b : ℕ
    b = row_bits t r

    abbrev here : ℕ
    here = base + slot_start t x

    at : here ≡ base + row_offset t r + (place_of t x).col * 2 ^ b
    at = omega (arith, (placed x h).begins)

    from-here : here ≤ offset
    from-here = omega (arith, (placed x h).from)

    to-there : offset < here + 2 ^ b
    to-there = omega (arith, (placed x h).to)

    led-here : b ≤ t.direct_bits → Led offset n base []
    led-here d = record {
      slot = record { start = here; size = 2 ^ b };
      leads = ends r (place_of t x).col (row_lt t x n u) d (placed x h).within at refl from-here to-there;
    }

    led-inside : t.direct_bits < b → {ws : List EnteredBlock} → Led offset (r - t.width_bits) here ws
        → Led offset n base (record { row = r; col = (place_of t x).col; start = here } ∷ ws)
    led-inside d L =
        let c : suc (place_of t x).col * 2 ^ b ≤ 2 ^ t.width_bits * 2 ^ b =
        mul-le-mul_right (2 ^ b) (placed x h).within in
        let inside : here + 2 ^ b ≤ base + row_offset t n =
        omega (arith, (placed x h).begins, (row t r).ends, row-mono t (suc r) n (row_lt t x n u)) in
        record {
          slot = L.slot;
          leads = enters (record { row = r; col = (place_of t x).col; start = here }) (row_lt t x n u) d
              (placed x h).within at from-here to-there inside L.leads;
        }

    -- inside the block that is entered the rest of the offset is smaller than the block
    record Rest (f : ℕ) : Type 0 where
      sum : here + (x - slot_start t x) ≡ offset
      rows : x - slot_start t x < row_offset t (r - t.width_bits)
      fuel : x - slot_start t x < 2 ^ f
      heap : x - slot_start t x < 2 ^ t.heap_bits

    rest : (f : ℕ) → x < 2 ^ suc f → t.direct_bits < b → Rest f
    rest f v d =
        let P = placed x h in
        let from = P.from in
        let to = P.to in
        let T' = top-row t x (heap-rows t x h) in
        let q : 1 * 2 ^ b ≤ x / 2 ^ b * 2 ^ b =
        mul-le-mul_right (2 ^ b) (omega (arith, T'.hi (omega (arith, T.start_in_direct)), pow_pos t.width_bits)) in
        let bf : b < suc f = grind (arith, pow_mono) in
        let bm : 2 ^ b ≤ 2 ^ f = pow_mono (omega arith) in
        let rows = slot-rows t r T.start_in_direct T.row_in_indirect d in
        record { sum = omega arith; rows = omega arith; fuel = omega arith; heap = omega arith }

  led-by : (f offset n base x : ℕ) → base + x ≡ offset → x < row_offset t n → x < 2 ^ f → x < 2 ^ t.heap_bits
      → Led offset n base (way_in t f base x)
  unfolding way_in
  led-by zero offset n base x e u v h =
      let first : 0 < row_offset t 1 = pow_pos (t.start_bits + t.width_bits + 0) in
      let z : row_of t x ≡ 0 = row-of-is t x 0 (heap-rows t x h) zero-le (omega arith) in
      led-here offset n base x e u h (omega (arith, T.start_in_direct))
  led-by (suc f) offset n base x e u v h =
      elim (cases_lt t.direct_bits (row_bits t (row_of t x))) [
        | inl d ↦
            let R = rest offset n base x e u h f v d in
            rw (lt-leb (row_bits t (row_of t x)) t.direct_bits d, way_in)
            (led-inside offset n base x e u h d
            (led-by f offset (row_of t x - t.width_bits) (base + slot_start t x) (x - slot_start t x) R.sum R.rows
            R.fuel R.heap))
        | inr d ↦
            rw (le-leb (row_bits t (row_of t x)) t.direct_bits d, way_in) (led-here offset n base x e u h d)
      ]

  way-leads : (x : ℕ) → x < 2 ^ t.heap_bits → WayLeads t x
  way-leads x h =
      let span = heap-span t T.row_in_heap in
      let L = led-by t.heap_bits x (max_rows t) 0 x (omega arith) (omega arith) h h in
      let R = reached L.leads in
      let H = holds L.leads in
      let D : Direct t (max_rows t) L.slot.start L.slot.size =
      subst (λ (s : ℕ). Direct t (max_rows t) s L.slot.size)
      (let e : R.rest ≡ L.slot.start = omega (arith, R.sum_is) in e)
      R.direct in
      subst (Leads t x (max_rows t) 0 (way t x)) (holds-is T x D (omega arith) H.0 H.1) L.leads

pub ways-lead : WaysLead
ways-lead t T x h = way-leads t T x h

-- ---- the fixed table

pub fixed-leads : (x place : ℕ) (r : Result (Option EnteredBlock) FormatError) → r ≡ entered_in fixed x place
    → OnOk r (WayLeads fixed x)
fixed-leads x place (Ok b) e = ways-lead fixed fixed-is-table x (grind (arith, nat_tests))
fixed-leads x place (Err f) e = tt

pub fixed-seven : (x place : ℕ) → 7 ≤ place → (r : Result (Option EnteredBlock) FormatError)
    → r ≡ entered_in fixed x place
    → IfOk r (λ block. block ≡ None)
fixed-seven x place l (Ok b) e =
    let h : x < 2 ^ 40 = grind (arith, nat_tests) in
    let block : b ≡ slice_get (way fixed x) place = grind (arith, nat_tests) in
    block ∙ slice_get_past (way fixed x) place
    (omega (arith, depth 8 eight-enough (ways-lead fixed fixed-is-table x h)))
fixed-seven x place l (Err f) e = tt
