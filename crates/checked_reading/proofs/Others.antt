-- Every block of a path but the last passes its tests.
use Rattle.std.proofs.Common.{◌≡◌, refl, ℕ, zero, suc, List, [], ◌∷◌, Bool, true, false, arith}
use Rattle.std.specs.Prelude.{◌==◌, ◌&&◌, not, Option, Some, None, Result, Ok, Err, if◌then◌else◌, All}
use Rattle.fields.specs.Widths.{legal}
use Rattle.fields.specs.Undefined.{is_undefined_addr}
use Rattle.refusals.specs.declared.FormatError.{FormatError}
use Rattle.reading.specs.declared.rows.DoublingTable.{DoublingTable}
use Rattle.reading.specs.declared.children.HeapChild.{HeapChild}
use Rattle.reading.specs.declared.children.HeapChild.TheVariants.{Direct, Indirect}
use Rattle.reading.specs.Blocks.{child_at}
use Rattle.checked_reading.specs.declared.Checked.{Checked}
use Rattle.checked_reading.specs.Blocks.{indirect_size, indirect_checked}
use Rattle.checked_reading.specs.Path.{Block, block_of, if_passed, from_child, path_from, root_path}
use Rattle.checked_reading.specs.Path.{before_last, all_but_last}
use Rattle.checked_reading.specs.Laws.{Passes, OthersPass}

module _ (heap : Checked) (table : DoublingTable) (s : List ℕ) (w t : ℕ) where
  abbrev Pass : List Block → Type 0
  Pass = All (Passes heap table s w)

  none : Pass []
  none k d h = absurd (omega arith)

  more : (b : Block) (bs : List Block) → Passes heap table s w b → Pass bs → Pass (b ∷ bs)
  more b bs p A zero d h = p
  more b bs p A (suc k) d h = A k d (omega arith)

  -- behind a block c that passes
  abbrev Passing : ℕ → Type 0
  Passing d =
      (b m o : ℕ) (c : Block) → Passes heap table s w c → Pass (before_last c (path_from heap table s w t d b m o))

  begun : (d : ℕ) → Passing d → (a n start : ℕ) → Pass (all_but_last (path_from heap table s w t (suc d) a n start))
  unfolding path_from
  begun d f a n start = opening (indirect_checked heap table s w a n start) refl (child_at table s a n start t w)
    where
      own : Block
      own = block_of a start (indirect_size table w n)

      behind : Result (Option HeapChild) FormatError → List Block
      behind r = from_child r (λ b m o. path_from heap table s w t d b m o)

      seeking : (r : Result (Option HeapChild) FormatError) → Passes heap table s w own
          → Pass (before_last own (behind r))
      seeking (Err e) p = none
      seeking (Ok None) p = none
      seeking (Ok (Some (Direct b size o))) p = more own [] p none
      seeking (Ok (Some (Indirect b m o))) p = f b m o own p

      opening : (x : Result (Unit {0}) FormatError) → indirect_checked heap table s w a n start ≡ x
          → (r : Result (Option HeapChild) FormatError) → Pass (before_last own (if_passed x (behind r)))
      opening (Err e) q r = none
      opening (Ok tt) q r = seeking r (record { rows = n; size = refl; passed = q })

  walk-pass : (d : ℕ) → Passing d
  unfolding path_from
  walk-pass zero a n start c p = none
  walk-pass (suc d) a n start c p =
      more c (all_but_last (path_from heap table s w t (suc d) a n start)) p (begun d (walk-pass d) a n start)

  root-pass : (a n : ℕ) (l x y : Bool) → Pass (all_but_last (if l && not x then
      (if y then block_of a 0 table.starting_block_size ∷ [] else path_from heap table s w t 64 a n 0) else []))
  root-pass a n false x y = none
  root-pass a n true true y = none
  root-pass a n true false true = none
  root-pass a n true false false = begun 63 (walk-pass 63) a n 0

pub others-pass : OthersPass
unfolding root_path
others-pass heap table s a n t w = root-pass heap table s w t a n (legal w) (is_undefined_addr a w) (n == 0)
