-- The path decides: a file of equal length with the same blocks on a read's path has the same answer, and the same
-- bytes of the object.
use Rattle.std.proofs.Common.{◌≡◌, refl, sym, ap, ◌∙◌, ℕ, zero, suc, ◌+◌, ◌-◌, List, [], ◌∷◌, length, take, drop}
use Rattle.std.proofs.Common.{Bool, true, false, arith, length-drop, drop-drop}
use Rattle.std.specs.Prelude.{◌==◌, ◌&&◌, not, Option, Some, None, Result, Ok, Err, if◌then◌else◌, IsSomeAnd}
use Rattle.numbers.specs.Numbers.{saturated}
use Rattle.fields.specs.Widths.{legal}
use Rattle.fields.specs.Undefined.{is_undefined_addr}
use Rattle.fields.specs.declared.place.Place.{Place}
use Rattle.refusals.specs.Steps.{◌>>=◌, required}
use Rattle.refusals.specs.declared.FormatError.{FormatError}
use Rattle.refusals.specs.declared.FormatError.TheVariants.{UnexpectedEof}
use Rattle.reading.specs.declared.rows.DoublingTable.{DoublingTable}
use Rattle.reading.specs.declared.children.HeapChild.{HeapChild}
use Rattle.reading.specs.declared.children.HeapChild.TheVariants.{Direct, Indirect}
use Rattle.reading.specs.Blocks.{child_at}
use Rattle.reading.specs.Walk.{Taking, walk_by}
use Rattle.reading.proofs.Walking.{block_passed}
use Rattle.checked_reading.specs.declared.Checked.{Checked}
use Rattle.checked_reading.specs.Blocks.{indirect_size, indirect_checked}
use Rattle.checked_reading.specs.Reading.{object_checked, checked, root_checked}
use Rattle.checked_reading.specs.Path.{Block, block_of, bytes_of, if_passed, from_child, path_from, root_path}
use Rattle.checked_reading.specs.Path.{last_from, last_of}
use Rattle.checked_reading.specs.Laws.{SameBlocks, InBlock, PathDecides, object_of}
use Rattle.checked_reading.proofs.Passing.{indirect-within, root-refused}
use Rattle.checked_reading.proofs.Agreeing.{part-agrees, indirect-agrees, direct-agrees, tails-alike, child-alike}
use Rattle.checked_reading.proofs.Inside.{object-in-block}

module _ (heap : Checked) (table : DoublingTable) (s u : List ℕ) (long : length s ≡ length u) (w t len : ℕ) where
  abbrev Same : List Block → Type 0
  Same = SameBlocks s u

  first : (b : Block) (bs : List Block) → Same (b ∷ bs) → bytes_of b s ≡ bytes_of b u
  first b bs A = A 0 b (omega arith)

  rest : (b : Block) (bs : List Block) → Same (b ∷ bs) → Same bs
  rest b bs A k d h = A (suc k) d (omega arith)

  abbrev taking : List ℕ → Taking
  taking v = checked heap table v w t len

  -- what follows a child in the file v
  abbrev next : List ℕ → ℕ → Result (Option HeapChild) FormatError → Result Place FormatError
  next v d r = r >>= block_passed (taking v) table v w t len d

  object-alike : (a size start : ℕ) → (let b = block_of a start size in bytes_of b s ≡ bytes_of b u)
      → (taking s).object a size start ≡ (taking u).object a size start
  unfolding object_checked
  object-alike a size start same = rw (direct-agrees heap table w s u long a size start same)

  abbrev Alike : ℕ → Type 0
  Alike d =
      (a n start : ℕ) → Same (path_from heap table s w t d a n start)
      → walk_by (taking s) table s w t len d a n start ≡ walk_by (taking u) table u w t len d a n start

  walk-alike : (d : ℕ) → Alike d
  unfolding walk_by path_from
  walk-alike zero a n start A = refl
  walk-alike (suc d) a n start A =
      opening (indirect_checked heap table s w a n start) refl (rest own _ A) (walk-alike d)
      ∙ ap (λ (x : Result (Unit {0}) FormatError). x >>= (λ _. next u d (child_at table u a n start t w)))
      (indirect-agrees heap table w s u long a n start (first own _ A))
    where
      own : Block
      own = block_of a start (indirect_size table w n)

      behind : Result (Option HeapChild) FormatError → List Block
      behind r = from_child r (λ b m o. path_from heap table s w t d b m o)

      seeking : (r : Result (Option HeapChild) FormatError) → Alike d → Same (behind r) → next s d r ≡ next u d r
      seeking (Err e) f B = refl
      seeking (Ok None) f B = ap (λ (k : ℕ). Err (UnexpectedEof (saturated (t + len)) k)) long
      seeking (Ok (Some (Direct b size o))) f B = object-alike b size o (first (block_of b o size) [] B)
      seeking (Ok (Some (Indirect b m o))) f B = f b m o B

      opening : (x : Result (Unit {0}) FormatError) → indirect_checked heap table s w a n start ≡ x
          → Same (if_passed x (behind (child_at table s a n start t w))) → Alike d
          → (x >>= (λ _. next s d (child_at table s a n start t w)))
          ≡ (x >>= (λ _. next u d (child_at table u a n start t w)))
      opening (Err e) q B f = refl
      opening (Ok tt) q B f =
          seeking (child_at table s a n start t w) f B
          ∙ ap (next u d) (child-alike heap table w s u long t a n start
          (indirect-within heap table s w a n start q) (first own _ A))

  root-alike : (a n : ℕ) → Same (root_path heap table s a n t w)
      → root_checked heap table s a n t len w ≡ root_checked heap table u a n t len w
  unfolding root_path
  root-alike a n A = by (legal w) refl A
    where
      from : List ℕ → Bool → Bool → Result Place FormatError
      from v x y =
          required (not x) (UnexpectedEof 1 0)
          >>= (λ _. if y then (taking v).object a table.starting_block_size 0
          else walk_by (taking v) table v w t len 64 a n 0)

      path : Bool → Bool → Bool → List Block
      path l x y =
          if l && not x then
          (if y then block_of a 0 table.starting_block_size ∷ [] else path_from heap table s w t 64 a n 0) else []

      rooted : (x y : Bool) → Same (path true x y) → from s x y ≡ from u x y
      rooted true y B = refl
      rooted false true B =
          let size = table.starting_block_size in
          object-alike a size 0 (first (block_of a 0 size) [] B)
      rooted false false B = walk-alike 64 a n 0 B

      by : (l : Bool) → legal w ≡ l → Same (path l (is_undefined_addr a w) (n == 0))
          → root_checked heap table s a n t len w ≡ root_checked heap table u a n t len w
      by false e B = root-refused heap table s w e a n t len ∙ sym (root-refused heap table u w e a n t len)
      by true e B = rooted (is_undefined_addr a w) (n == 0) B

  -- ---- the bytes: the object lies in the last block

  last-alike : (b : Block) (bs : List Block) → Same (b ∷ bs) → bytes_of (last_from b bs) s ≡ bytes_of (last_from b bs) u
  last-alike b [] A = first b [] A
  last-alike b (c ∷ bs) A = last-alike c bs (rest b (c ∷ bs) A)

  object-bytes : (b : Block) (place : Place) → InBlock s place b → bytes_of b s ≡ bytes_of b u
      → object_of place s ≡ object_of place u
  object-bytes b place I same =
      let d : ℕ = place.position - b.address in
      let e : b.address + d ≡ place.position = omega (arith, I.begins) in
      ap (λ (k : ℕ). take place.length (drop k s)) (sym e)
      ∙ ap (take place.length) (sym (drop-drop d b.address s))
      ∙ part-agrees (drop b.address s) (drop b.address u) b.size
      (rw (length-drop b.address s) (omega (arith, I.within)))
      (tails-alike heap table w s u long b.address) same d place.length (omega (arith, I.begins, I.ends))
      ∙ ap (take place.length) (drop-drop d b.address u)
      ∙ ap (λ (k : ℕ). take place.length (drop k u)) e

  path-bytes : (path : List Block) (place : Place) → Same path → IsSomeAnd (last_of path) (InBlock s place)
      → object_of place s ≡ object_of place u
  path-bytes [] place A I = absurd I
  path-bytes (b ∷ bs) place A I = object-bytes (last_from b bs) place I (last-alike b bs A)

pub path-decides : PathDecides
path-decides =
    record {
      answer = λ heap table s u a n t len w long A. root-alike heap table s u long w t len a n A;
      bytes = λ heap table s u a n t len w place long A h.
          path-bytes heap table s u long w t len (root_path heap table s a n t w) place A
          (object-in-block heap table s a n t len w place h);
    }
