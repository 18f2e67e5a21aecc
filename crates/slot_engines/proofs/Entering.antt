-- The way to an offset's slot, a block at a time.
use Rattle.std.proofs.Common.{ℕ, zero, suc, ◌+◌, ◌-◌, ◌^◌, ◌≤◌, ◌<◌, ◌≡◌, refl, sym, ap, ◌∙◌, List, [], ◌∷◌, arith}
use Rattle.std.proofs.lemmas.Bool.{le-leb, lt-leb}
use Rattle.std.proofs.lemmas.Nat.{pow_pos}
use Rattle.std.proofs.lemmas.Bool.Decides.{nat_tests}
use Rattle.std.specs.Prelude.{Option, Some, None, Result, Ok, Err, true, false, nat_le}
use Rattle.refusals.specs.declared.FormatError.{FormatError}
use Rattle.refusals.specs.declared.FormatError.TheVariants.{OutsideHeap}
use Rattle.std.specs.List.{slice_get}
use Rattle.table.specs.Table.{fixed, row_bits, row_of, place_of}
use Rattle.table.specs.Slots.{slot_start, table_slot}
use Rattle.table.specs.declared.RowCol.{RowCol}
use Rattle.table.specs.declared.TableSlot.{TableSlot}
use Rattle.table.proofs.Locating.{start-le, start-ge, rest-lt, direct-slot, deep-slot}
use Rattle.slot_engines.specs.Way.{way_in, way, entered_in}
use Rattle.slot_engines.specs.declared.way.EnteredBlock.{EnteredBlock}

-- the block at `base` is entered, x bytes past it lies the offset, and `left` more are to be entered
pub record OnWay (offset place base x left : ℕ) : Type 0 where
  pub heap : offset < 2 ^ 40
  pub sum : base + x ≡ offset
  pub fuel : ℕ
  pub enough : x < 2 ^ fuel
  pub rest : slice_get (way fixed offset) place ≡ slice_get (way_in fixed fuel base x) left

pub way_start : (offset place : ℕ) → offset < 2 ^ 40 → OnWay offset place 0 offset place
way_start offset place h = record { heap = h; sum = omega arith; fuel = 40; enough = h; rest = refl }

module _ {offset place base x left : ℕ} (I : OnWay offset place base x left) where
  none-in : row_bits fixed (row_of fixed x) ≤ 16 → (f : ℕ) → way_in fixed f base x ≡ []
  unfolding way_in
  none-in l zero = refl
  none-in l (suc f) = rw (le-leb (row_bits fixed (row_of fixed x)) 16 l, way_in)

  pub way_done : row_bits fixed (row_of fixed x) ≤ 16 → None ≡ slice_get (way fixed offset) place
  way_done l = sym (I.rest ∙ ap (λ (ws : List EnteredBlock). slice_get ws left) (none-in l I.fuel))

  module _ (l : 16 < row_bits fixed (row_of fixed x)) where
    h : x < 2 ^ 40
    h = omega (arith, I.heap, I.sum)

    abbrev here : EnteredBlock
    here = record { row = row_of fixed x; col = (place_of fixed x).col; start = base + slot_start fixed x }

    -- there is one more
    record Into : Type 0 where
      deeper : ℕ
      enough : x - slot_start fixed x < 2 ^ deeper
      more : way_in fixed I.fuel base x
          ≡ here ∷ way_in fixed deeper (base + slot_start fixed x) (x - slot_start fixed x)

    into : Into
    unfolding way_in
    into = go I.fuel I.enough refl
      where
        go : (f : ℕ) → x < 2 ^ f → I.fuel ≡ f → Into
        go zero b e = absurd (omega (arith, start-ge x h l, start-le x, pow_pos (row_bits fixed (row_of fixed x))))
        go (suc f) b e = record {
          deeper = f;
          enough = rest-lt x h l f b;
          more =
              ap (λ (k : ℕ). way_in fixed k base x) e
              ∙ rw (lt-leb (row_bits fixed (row_of fixed x)) 16 l, way_in) refl;
        }

    pub way_here : left ≡ 0 → Some here ≡ slice_get (way fixed offset) place
    way_here z =
        sym
        (I.rest
        ∙ ap (λ (k : ℕ). slice_get (way_in fixed I.fuel base x) k) z
        ∙ ap (λ (ws : List EnteredBlock). slice_get ws 0) into.more)

    pub way_more : 0 < left → OnWay offset place (base + slot_start fixed x) (x - slot_start fixed x) (left - 1)
    way_more p =
        let k = left - 1 in
        let z : left ≡ suc k = omega arith in
        record {
          heap = I.heap;
          sum = omega (arith, I.sum, start-le x);
          fuel = into.deeper;
          enough = into.enough;
          rest = I.rest ∙ ap (λ (n : ℕ). slice_get (way_in fixed I.fuel base x) n) z
              ∙ ap (λ (ws : List EnteredBlock). slice_get ws (suc k)) into.more;
        }

-- ---- the answers

told : (offset place : ℕ) (o : Option EnteredBlock) → offset < 2 ^ 40 → o ≡ slice_get (way fixed offset) place
    → ◌≡◌ {A = Result (Option EnteredBlock) FormatError} (Ok o) (entered_in fixed offset place)
told offset place o l e =
    let is : ◌≡◌ {A = Result (Option EnteredBlock) FormatError} (Ok (slice_get (way fixed offset) place))
    (entered_in fixed offset place) = grind (arith, nat_tests) in
    ap Ok e ∙ is

pub entered_above : (offset place : ℕ) → 2 ^ 40 ≤ offset
    → ◌≡◌ {A = Result (Option EnteredBlock) FormatError} (Err (OutsideHeap offset)) (entered_in fixed offset place)
entered_above offset place l = grind (arith, nat_tests)

module _ {offset place base x left : ℕ} (I : OnWay offset place base x left)
    {at : TableSlot} (e : at ≡ table_slot fixed x) where
  pub entered_none : true ≡ nat_le (row_bits fixed at.row) 16
      → ◌≡◌ {A = Result (Option EnteredBlock) FormatError} (Ok None) (entered_in fixed offset place)
  entered_none d = told offset place None I.heap (way_done I (direct-slot x e d))

  module _ (d : false ≡ nat_le (row_bits fixed at.row) 16) where
    pub entered_here : {p : RowCol} → p ≡ place_of fixed x → left ≡ 0
        → ◌≡◌ {A = Result (Option EnteredBlock) FormatError}
        (Ok (Some (record { row = at.row; col = p.col; start = base + at.start }))) (entered_in fixed offset place)
    entered_here {p} f z =
        told offset place (Some (record { row = at.row; col = p.col; start = base + at.start })) I.heap
        ((λ i. Some (record { row = (e i).row; col = (f i).col; start = base + (e i).start }))
        ∙ way_here I (deep-slot x e d) z)

    pub entered_more : 0 < left → OnWay offset place (base + at.start) (x - at.start) (left - 1)
    entered_more p = rw e (way_more I (deep-slot x e d) p)
