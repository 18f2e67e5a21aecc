-- The objects of a heap, read back one after another and compared with the bytes that they were
-- written from: how many come back.
use Rattle.std.specs.Prelude.{ℕ, ◌+◌, ◌&&◌, Bool, false, List, [], ◌∷◌, take, drop, nat_lt}
use Rattle.std.specs.Prelude.{bytes_eq, Result, Ok, Err}
use Rattle.numbers.specs.Sums.{bit}
use Rattle.refusals.specs.declared.FormatError.{FormatError}
use Rattle.fields.specs.declared.place.Place.{Place}
use Rattle.fractal_heap.specs.declared.header.FractalHeapHeader.{FractalHeapHeader}
use Rattle.round_trip.specs.Objects.{object_at}

-- the file has these bytes at the place that was found
abbrev pub found_as : (found : Result Place FormatError) (file bytes : List ℕ) → Bool
found_as (Ok place) file bytes = bytes_eq (take place.length (drop place.position file)) bytes
found_as (Err refused) file bytes = false

-- the object of `size` bytes at the heap offset `offset` is not empty, and found with these bytes
abbrev pub comes_back : (header : FractalHeapHeader) (file : List ℕ)
    (offset_size offset size : ℕ) (bytes : List ℕ) → Bool
comes_back header file offset_size offset size bytes =
    nat_lt 0 size && found_as (object_at header file offset_size offset size) file bytes

-- how many nonempty objects of these sizes come back, with these heap offsets and joined bytes
unfoldable pub returned_count : (header : FractalHeapHeader) (file : List ℕ) (offset_size : ℕ)
    (sizes offsets objects : List ℕ) → ℕ
returned_count header file offset_size [] offsets objects = 0
returned_count header file offset_size (size ∷ sizes) [] objects = 0
returned_count header file offset_size (size ∷ sizes) (offset ∷ offsets) objects =
    bit (comes_back header file offset_size offset size (take size objects))
    + returned_count header file offset_size sizes offsets (drop size objects)
