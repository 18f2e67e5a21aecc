-- Checking only refuses: what is found is what is found without tests.
use Rattle.std.proofs.Common.{◌≡◌, refl, ℕ, zero, suc, List, Bool, true, false}
use Rattle.std.specs.Prelude.{◌==◌, not, Option, Some, None, Result, Ok, Err, if◌then◌else◌}
use Rattle.fields.specs.Undefined.{is_undefined_addr}
use Rattle.fields.specs.declared.place.Place.{Place}
use Rattle.refusals.specs.Steps.{◌>>=◌, required}
use Rattle.refusals.specs.declared.FormatError.{FormatError}
use Rattle.refusals.specs.declared.FormatError.TheVariants.{UnexpectedEof}
use Rattle.reading.specs.declared.rows.DoublingTable.{DoublingTable}
use Rattle.reading.specs.declared.children.HeapChild.{HeapChild}
use Rattle.reading.specs.declared.children.HeapChild.TheVariants.{Direct, Indirect}
use Rattle.reading.specs.Blocks.{child_at}
use Rattle.reading.specs.Walk.{Taking, unchecked, walk_by, root_by}
use Rattle.reading.proofs.Walking.{block_passed}
use Rattle.checked_reading.specs.Reading.{checked}
use Rattle.checked_reading.specs.Laws.{OnlyRefuses}
use Rattle.checked_reading.proofs.Passing.{object-held, held-read}

-- a walk that may seek a child in each block, and finds in each direct block what the other finds, finds what the other
-- finds
module _ (taking plain : Taking) (place : Place) (opens : (a n start : ℕ) → plain.opened a n start ≡ Ok tt)
    (object : (a size start : ℕ) → taking.object a size start ≡ Ok place → plain.object a size start ≡ Ok place)
    (table : DoublingTable) (s : List ℕ) (w t len : ℕ) where
  abbrev next : Taking → ℕ → Result (Option HeapChild) FormatError → Result Place FormatError
  next v d r = r >>= block_passed v table s w t len d

  abbrev Found : ℕ → Type 0
  Found d =
      (b m o : ℕ) → walk_by taking table s w t len d b m o ≡ Ok place
      → walk_by plain table s w t len d b m o ≡ Ok place

  walk-found : (d : ℕ) → Found d
  unfolding walk_by
  walk-found zero a n start h = absurd cc
  walk-found (suc d) a n start h =
      rw (opens a n start) (opening (taking.opened a n start) (child_at table s a n start t w) (walk-found d) h)
    where
      seeking : (r : Result (Option HeapChild) FormatError) → Found d → next taking d r ≡ Ok place
          → next plain d r ≡ Ok place
      seeking (Err e) f h = absurd cc
      seeking (Ok None) f h = absurd cc
      seeking (Ok (Some (Direct b size o))) f h = object b size o h
      seeking (Ok (Some (Indirect b m o))) f h = f b m o h

      opening : (x : Result (Unit {0}) FormatError) (r : Result (Option HeapChild) FormatError) → Found d
          → (x >>= (λ _. next taking d r)) ≡ Ok place → next plain d r ≡ Ok place
      opening (Err e) r f h = absurd cc
      opening (Ok tt) r f h = seeking r f h

  pub root-found : (a n : ℕ) → root_by taking table s a n t len w ≡ Ok place
      → root_by plain table s a n t len w ≡ Ok place
  root-found a n h = rooted (is_undefined_addr a w) (n == 0) h
    where
      from : Taking → Bool → Bool → Result Place FormatError
      from v x y =
          required (not x) (UnexpectedEof 1 0)
          >>= (λ _. if y then v.object a table.starting_block_size 0 else walk_by v table s w t len 64 a n 0)

      rooted : (x y : Bool) → from taking x y ≡ Ok place → from plain x y ≡ Ok place
      rooted true y h = absurd cc
      rooted false true h = object a table.starting_block_size 0 h
      rooted false false h = walk-found 64 a n 0 h

pub only-refuses : OnlyRefuses
only-refuses heap table s a n t len w place small h =
    let plain = unchecked s t len in
    root-found (checked heap table s w t len) plain place (λ a n start. refl) object table s w t len a n h
  where
    object : (a size start : ℕ) → (checked heap table s w t len).object a size start ≡ Ok place
        → (unchecked s t len).object a size start ≡ Ok place
    object a size start g =
        let H = object-held heap table s w t len a size start place g in
        held-read s t len a size start place small H.position H.bytes H.ends H.within
