-- The last block of a read by the root, and that of a read that comes to no block its refusal is told, and no other.
use Rattle.std.proofs.Common.{◌≡◌, ◌∙◌, refl, ap, ℕ, List, [], ◌∷◌, Bool, true, false, arith}
use Rattle.std.specs.Prelude.{◌==◌, ◌&&◌, not, Result, Err, if◌then◌else◌}
use Rattle.std.specs.Option.{option_map, ok_or}
use Rattle.std.proofs.Common.{◌<◌}
use Rattle.std.specs.Prelude.{Some, Ok}
use Rattle.std.proofs.lemmas.Grind.{common_steps}
use Rattle.fields.specs.Widths.{legal}
use Rattle.fields.specs.Undefined.{is_undefined_addr}
use Rattle.refusals.specs.declared.FormatError.{FormatError}
use Rattle.refusals.specs.declared.FormatError.TheVariants.{UnexpectedEof, InvalidOffsetSize}
use Rattle.reading.specs.declared.rows.DoublingTable.{DoublingTable}
use Rattle.checked_reading.specs.declared.Checked.{Checked}
use Rattle.checked_reading.specs.declared.path.BlockSite.{BlockSite}
use Rattle.checked_reading.specs.Reading.{root_checked}
use Rattle.checked_reading.specs.Path.{block_of, root_path, path_from, last_of, block_site, stopping_block}
use Rattle.checked_reading.specs.Laws.{StopsAreRefusals, NoBlockIsTold}
use Rattle.checked_reading.proofs.Passing.{root-refused}

-- ---- the last block: the root, where it is a direct block, or the last one below it

module _ (heap : Checked) (table : DoublingTable) (s : List ℕ) (a n t w : ℕ) where
  pub stopping_undefined : is_undefined_addr a w ≡ true
      → stopping_block heap table s a n t w ≡ Err (UnexpectedEof 1 0)
  unfolding stopping_block root_path
  stopping_undefined e = grind (arith, common_steps)

  pub stopping_widthless : is_undefined_addr a w ≡ false → legal w ≡ false
      → stopping_block heap table s a n t w ≡ Err (InvalidOffsetSize w)
  unfolding stopping_block root_path
  stopping_widthless e f = grind (arith, common_steps)

  sizeless : (undefined : Bool) → is_undefined_addr a w ≡ undefined → legal w ≡ false
      → stopping_block heap table s a n t w ≡ Err (InvalidOffsetSize w)
  sizeless true e f = absurd (grind (arith, common_steps))
  sizeless false e f = stopping_widthless e f

  pub stopping_sizeless : legal w ≡ false → stopping_block heap table s a n t w ≡ Err (InvalidOffsetSize w)
  stopping_sizeless f = sizeless (is_undefined_addr a w) refl f

  pub stopping_direct : is_undefined_addr a w ≡ false → legal w ≡ true → n ≡ 0
      → stopping_block heap table s a n t w ≡ Ok (record { address = a; heap_offset = 0 })
  unfolding stopping_block root_path
  stopping_direct e f g = grind (arith, common_steps)

  pub stopping_below : is_undefined_addr a w ≡ false → legal w ≡ true → 0 < n → (x : BlockSite)
      → Some x ≡ option_map block_site (last_of (path_from heap table s w t 64 a n 0))
      → stopping_block heap table s a n t w ≡ Ok x
  unfolding stopping_block root_path
  stopping_below e f g x h = grind (arith, common_steps)

-- ---- a read that comes to no block

-- the same refusal, whatever is answered else
abbrev the_refusal : FormatError → Result BlockSite FormatError
the_refusal e = Err e

told : (e f : FormatError) → the_refusal e ≡ the_refusal f → e ≡ f
told e f h = cc

module _ (heap : Checked) (table : DoublingTable) (s : List ℕ) (a n t len w : ℕ) (refused : FormatError) where
  stops : (l x y : Bool) → legal w ≡ l → is_undefined_addr a w ≡ x
      → ok_or (option_map block_site (last_of (if l && not x then
      (if y then block_of a 0 table.starting_block_size ∷ [] else path_from heap table s w t 64 a n 0) else [])))
      (if x then UnexpectedEof 1 0 else InvalidOffsetSize w) ≡ Err refused
      → root_checked heap table s a n t len w ≡ Err refused
  unfolding path_from
  stops true true y e f h = rw f (ap Err (told _ _ h))
  stops true false true e f h = absurd cc
  stops true false false e f h = absurd cc
  stops false true y e f h = absurd (grind (arith, common_steps))
  stops false false y e f h = root-refused heap table s w e a n t len ∙ ap Err (told _ _ h)

pub stops-refuse : StopsAreRefusals
unfolding stopping_block root_path
stops-refuse heap table s a n t len w refused h =
    stops heap table s a n t len w refused (legal w) (is_undefined_addr a w) (n == 0) refl refl h

pub no-block : NoBlockIsTold
no-block =
    record {
      undefined_root = λ heap table s a n t w e. stopping_undefined heap table s a n t w e;
      no_offset_size = λ heap table s a n t w e. stopping_sizeless heap table s a n t w e;
    }
