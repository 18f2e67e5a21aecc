-- What is found lies in the last block of its path, and that block in the file.
use Rattle.std.proofs.Common.{◌≡◌, refl, ℕ, zero, suc, List, [], ◌∷◌, Bool, true, false, arith}
use Rattle.std.specs.Prelude.{◌==◌, ◌&&◌, not, Option, Some, None, Result, Ok, Err, if◌then◌else◌, IsSomeAnd}
use Rattle.fields.specs.Widths.{legal}
use Rattle.fields.specs.Undefined.{is_undefined_addr}
use Rattle.fields.specs.declared.place.Place.{Place}
use Rattle.refusals.specs.Steps.{◌>>=◌, required}
use Rattle.refusals.specs.declared.FormatError.{FormatError}
use Rattle.refusals.specs.declared.FormatError.TheVariants.{UnexpectedEof}
use Rattle.reading.specs.declared.rows.DoublingTable.{DoublingTable}
use Rattle.reading.specs.declared.children.HeapChild.{HeapChild}
use Rattle.reading.specs.declared.children.HeapChild.TheVariants.{Direct, Indirect}
use Rattle.reading.specs.Blocks.{child_at}
use Rattle.reading.specs.Walk.{Taking, walk_by}
use Rattle.reading.proofs.Walking.{block_passed}
use Rattle.checked_reading.specs.declared.Checked.{Checked}
use Rattle.checked_reading.specs.Blocks.{indirect_size, indirect_checked}
use Rattle.checked_reading.specs.Reading.{checked, root_checked}
use Rattle.checked_reading.specs.Path.{Block, block_of, if_passed, from_child, path_from, root_path, last_from, last_of}
use Rattle.checked_reading.specs.Laws.{InBlock, ObjectInBlock}
use Rattle.checked_reading.proofs.Passing.{object-held, root-refused}

module _ (heap : Checked) (table : DoublingTable) (s : List ℕ) (w t len : ℕ) (place : Place) where
  abbrev taking : Taking
  taking = checked heap table s w t len

  direct-inside : (a size start : ℕ) → taking.object a size start ≡ Ok place → InBlock s place (block_of a start size)
  direct-inside a size start h =
      let H = object-held heap table s w t len a size start place h in
      record {
        begins = omega (arith, H.position);
        ends = omega (arith, H.position, H.bytes, H.ends);
        within = H.within;
      }

  abbrev Inside : ℕ → Type 0
  Inside d =
      (b m o : ℕ) (c : Block) → walk_by taking table s w t len d b m o ≡ Ok place
      → InBlock s place (last_from c (path_from heap table s w t d b m o))

  walk-inside : (d : ℕ) → Inside d
  unfolding walk_by path_from
  walk-inside zero a n start c h = absurd cc
  walk-inside (suc d) a n start c h =
      opening (indirect_checked heap table s w a n start) (child_at table s a n start t w) (walk-inside d) h
    where
      own : Block
      own = block_of a start (indirect_size table w n)

      behind : Result (Option HeapChild) FormatError → List Block
      behind r = from_child r (λ b m o. path_from heap table s w t d b m o)

      seeking : (r : Result (Option HeapChild) FormatError) → Inside d
          → (r >>= block_passed taking table s w t len d) ≡ Ok place → InBlock s place (last_from own (behind r))
      seeking (Err e) f h = absurd cc
      seeking (Ok None) f h = absurd cc
      seeking (Ok (Some (Direct b size o))) f h = direct-inside b size o h
      seeking (Ok (Some (Indirect b m o))) f h = f b m o own h

      opening : (x : Result (Unit {0}) FormatError) (r : Result (Option HeapChild) FormatError) → Inside d
          → (x >>= (λ _. r >>= block_passed taking table s w t len d)) ≡ Ok place
          → InBlock s place (last_from own (if_passed x (behind r)))
      opening (Err e) r f h = absurd cc
      opening (Ok tt) r f h = seeking r f h

  root-inside : (a n : ℕ) → root_checked heap table s a n t len w ≡ Ok place
      → IsSomeAnd (last_of (root_path heap table s a n t w)) (InBlock s place)
  unfolding root_path path_from
  root-inside a n h = by (legal w) refl
    where
      rooted : (x y : Bool) → (required (not x) (UnexpectedEof 1 0)
          >>= (λ _. if y then taking.object a table.starting_block_size 0 else walk_by taking table s w t len 64 a n 0))
          ≡ Ok place
          → IsSomeAnd (last_of (if true && not x then
          (if y then block_of a 0 table.starting_block_size ∷ [] else path_from heap table s w t 64 a n 0) else []))
          (InBlock s place)
      rooted true y h = absurd cc
      rooted false true h = direct-inside a table.starting_block_size 0 h
      rooted false false h = walk-inside 64 a n 0 (block_of 0 0 0) h

      by : (l : Bool) → legal w ≡ l → IsSomeAnd (last_of (if l && not (is_undefined_addr a w) then
          (if n == 0 then block_of a 0 table.starting_block_size ∷ []
          else path_from heap table s w t 64 a n 0) else [])) (InBlock s place)
      by false e = absurd (let r = root-refused heap table s w e a n t len in cc)
      by true e = rooted (is_undefined_addr a w) (n == 0) h

pub object-in-block : ObjectInBlock
object-in-block heap table s a n t len w place h = root-inside heap table s w t len place a n h
