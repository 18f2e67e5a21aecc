-- A read by an ID that tests every block: the laws of the walk from the root, once the ID has been taken apart.
use Rattle.std.proofs.Common.{◌≡◌, refl, sym, ap, ◌∙◌, ℕ, ◌^◌, ◌<◌, List, length, arith}
use Rattle.std.specs.Prelude.{◌==◌, Result, Ok, Err, IfOk, IsSomeAnd}
use Rattle.std.proofs.lemmas.Grind.{common_steps}
use Rattle.refusals.specs.Steps.{◌>>=◌, required}
use Rattle.refusals.specs.declared.FormatError.{FormatError}
use Rattle.refusals.specs.declared.FormatError.TheVariants.{UnsupportedFilteredHeapObject}
use Rattle.fields.specs.declared.place.Place.{Place}
use Rattle.ids.specs.declared.decode.ManagedId.{ManagedId}
use Rattle.reading.specs.Walk.{root_unchecked}
use Rattle.checked_reading.specs.declared.Checked.{Checked}
use Rattle.checked_reading.specs.declared.path.BlockSite.{BlockSite}
use Rattle.checked_reading.specs.Reading.{root_checked}
use Rattle.checked_reading.specs.Path.{Block, root_path, last_of, stopping_block}
use Rattle.checked_reading.specs.Laws.{SameBlocks, object_of, InBlock}
use Rattle.checked_reading.proofs.Unchecked.{only-refuses}
use Rattle.checked_reading.proofs.Deciding.{path-decides}
use Rattle.checked_reading.proofs.Inside.{object-in-block}
use Rattle.checked_reading.proofs.Stops.{stops-refuse, stopping_undefined, stopping_sizeless}
use Rattle.fractal_heap.specs.declared.header.FractalHeapHeader.{FractalHeapHeader}
use Rattle.fractal_heap.specs.Read.{id_in, sought_by, tests_of, managed_checked, path_to, stopping_block_by}
use Rattle.fractal_heap.specs.CheckedLaws.{IsFoundUnchecked, IsInStoppingBlock, DecidedByPath, TellsRefusal}

-- what an ID of a heap with filters, or of one without, comes to
filtered : (n : ℕ) (x : Result ManagedId FormatError) → 0 < n
    → (required (n == 0) UnsupportedFilteredHeapObject >>= (λ _. x)) ≡ Err UnsupportedFilteredHeapObject
filtered n x e = grind (arith, common_steps)

unfiltered : (n : ℕ) (x : Result ManagedId FormatError) → n ≡ 0
    → (required (n == 0) UnsupportedFilteredHeapObject >>= (λ _. x)) ≡ x
unfiltered n x e = grind (arith, common_steps)

module _ (h : FractalHeapHeader) (address : ℕ) (s : List ℕ) (w : ℕ) where
  abbrev heap : Checked
  heap = tests_of h address

  abbrev root : ℕ
  root = h.root_block_address

  abbrev rows : ℕ
  rows = h.current_rows_in_root_indirect_block

  -- the answer for what is sought in a file
  abbrev answer_in : (file : List ℕ) (sought : Result ManagedId FormatError) → Result Place FormatError
  answer_in file sought =
      sought >>= (λ object. root_checked heap h.table file root rows object.offset object.length w)

  abbrev path : (sought : Result ManagedId FormatError) → List Block
  path sought = path_to sought (λ target. root_path heap h.table s root rows target w)

  -- ---- what is sought is an object

  object_found : (object : ManagedId) (r : Result Place FormatError) → length s < 2 ^ 64
      → r ≡ answer_in s (Ok object)
      → IfOk r (λ place. root_unchecked h.table s root rows object.offset object.length w ≡ Ok place)
  object_found object (Ok place) small e =
      only-refuses heap h.table s root rows object.offset object.length w place small (sym e)
  object_found object (Err refused) small e = tt

  object_inside : (object : ManagedId) (r : Result Place FormatError) → r ≡ answer_in s (Ok object)
      → IfOk r (λ place. IsSomeAnd (last_of (path (Ok object))) (InBlock s place))
  object_inside object (Ok place) e =
      object-in-block heap h.table s root rows object.offset object.length w place (sym e)
  object_inside object (Err refused) e = tt

  object_bytes : (object : ManagedId) (u : List ℕ) (r : Result Place FormatError) → length s ≡ length u
      → SameBlocks s u (path (Ok object)) → r ≡ answer_in s (Ok object)
      → IfOk r (λ place. object_of place s ≡ object_of place u)
  object_bytes object u (Ok place) long same e =
      path-decides.bytes heap h.table s u root rows object.offset object.length w place long same (sym e)
  object_bytes object u (Err refused) long same e = tt

  -- ---- what is sought may be refused

  found : (x : Result ManagedId FormatError) (r : Result Place FormatError) → length s < 2 ^ 64 → r ≡ answer_in s x
      → IfOk r (λ place.
      (x >>= (λ object. root_unchecked h.table s root rows object.offset object.length w)) ≡ Ok place)
  found (Ok object) r small e = object_found object r small e
  found (Err refused) r small e = rw e tt

  inside : (x : Result ManagedId FormatError) (r : Result Place FormatError) → r ≡ answer_in s x
      → IfOk r (λ place. IsSomeAnd (last_of (path x)) (InBlock s place))
  inside (Ok object) r e = object_inside object r e
  inside (Err refused) r e = rw e tt

  alike : (x : Result ManagedId FormatError) (u : List ℕ) → length s ≡ length u → SameBlocks s u (path x)
      → answer_in s x ≡ answer_in u x
  alike (Ok object) u long same =
      path-decides.answer heap h.table s u root rows object.offset object.length w long same
  alike (Err refused) u long same = refl

  bytes : (x : Result ManagedId FormatError) (u : List ℕ) (r : Result Place FormatError) → length s ≡ length u
      → SameBlocks s u (path x) → r ≡ answer_in s x → IfOk r (λ place. object_of place s ≡ object_of place u)
  bytes (Ok object) u r long same e = object_bytes object u r long same e
  bytes (Err refused) u r long same e = rw e tt

  told : {e f : FormatError} → ◌≡◌ {A = Result BlockSite FormatError} (Err e) (Err f)
      → ◌≡◌ {A = Result Place FormatError} (Err e) (Err f)
  told e = cc

  -- the block at which a read stops for what is sought
  abbrev stop : (sought : Result ManagedId FormatError) → Result BlockSite FormatError
  stop sought = sought >>= (λ object. stopping_block heap h.table s root rows object.offset w)

  refuses : (x : Result ManagedId FormatError) (refused : FormatError) → stop x ≡ Err refused
      → answer_in s x ≡ Err refused
  refuses (Ok object) refused e = stops-refuse heap h.table s root rows object.offset object.length w refused e
  refuses (Err f) refused e = told e

  -- ---- by an ID

  pub is_found_unchecked : (id : List ℕ) (r : Result Place FormatError) → length s < 2 ^ 64
      → r ≡ managed_checked h address s id w → IfOk r (IsFoundUnchecked h s id w)
  is_found_unchecked id r small e = found (sought_by h id) r small e

  pub is_in_stopping_block : (id : List ℕ) (r : Result Place FormatError) → r ≡ managed_checked h address s id w
      → IfOk r (IsInStoppingBlock h address s id w)
  is_in_stopping_block id r e = inside (sought_by h id) r e

  pub is_decided : (id : List ℕ) (r : Result Place FormatError) → r ≡ managed_checked h address s id w
      → DecidedByPath h address s id w r
  is_decided id r e =
      record {
        answer = λ other long same. e ∙ alike (sought_by h id) other long same;
        bytes = λ other long same. bytes (sought_by h id) other r long same e;
      }

  pub tells_refusal : (id : List ℕ) (r : Result BlockSite FormatError) → r ≡ stopping_block_by h address s id w
      → TellsRefusal h address s id w r
  tells_refusal id r e =
      let n = h.io_filter_encoded_length in
      record {
        told = λ refused f. refuses (sought_by h id) refused (sym e ∙ f);
        filters = λ f. e ∙ ap stop (filtered n (id_in h id) f);
        by_id = λ refused f g. e ∙ ap stop (unfiltered n (id_in h id) f ∙ g);
        undefined_root = λ object f g.
            e ∙ ap stop f ∙ stopping_undefined heap h.table s root rows object.offset w g;
        no_offset_size = λ object f g.
            e ∙ ap stop f ∙ stopping_sizeless heap h.table s root rows object.offset w g;
      }

-- what holds of a read besides its answer
pub ruleset of_a_read = (is_found_unchecked, is_in_stopping_block, is_decided)
