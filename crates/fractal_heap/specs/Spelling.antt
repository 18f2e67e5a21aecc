-- A header without filters as bytes. HDF5 File Format Specification 3.0, III.G, 'Fractal Heap
-- Header'.
use Rattle.std.specs.Prelude.{ℕ, ◌*◌, ◌^◌, ◌<◌, List, [], ◌∷◌, ◌++◌}
use Rattle.fields.specs.LittleEndian.{le}
use Rattle.fields.specs.Signatures.{header_signature}
use Rattle.checksum.specs.Lookup3.{hashlittle}
use Rattle.fractal_heap.specs.Header.{header_numbers}
use Rattle.fractal_heap.specs.declared.header.FractalHeapHeader.{FractalHeapHeader}

-- how many bytes each field has, in the order of `header_numbers`: O is Size of Offsets, L is Size
-- of Lengths
abbrev pub field_widths : (O L : ℕ) → List ℕ
field_widths O L =
    2 ∷ 2 ∷ 1 ∷ 4 ∷ L ∷ O ∷ L ∷ O ∷ L ∷ L ∷ L ∷ L ∷ L ∷ L ∷ L ∷ L ∷ 2 ∷ L ∷ L ∷ 2 ∷ 2 ∷ O ∷ 2 ∷ []

-- numbers of these widths as bytes, one behind the other
unfoldable pub spelled : (widths numbers : List ℕ) → List ℕ
spelled [] numbers = []
spelled (width ∷ widths) [] = []
spelled (width ∷ widths) (number ∷ numbers) = le width number ++ spelled widths numbers

-- each number fits its width
unfoldable pub AllFit : (widths numbers : List ℕ) → Type 0
AllFit [] numbers = Unit {0}
AllFit (width ∷ widths) [] = Unit {0}
AllFit (width ∷ widths) (number ∷ numbers) = (number < 2 ^ (8 * width)) × AllFit widths numbers

-- all before Checksum: Signature, Version 0, the fields
abbrev pub unsummed : (header : FractalHeapHeader) (offset_size length_size : ℕ) → List ℕ
unsummed header offset_size length_size =
    header_signature ++ 0 ∷ spelled (field_widths offset_size length_size) (header_numbers header)

-- the whole header
abbrev pub header_spelled : (header : FractalHeapHeader) (offset_size length_size : ℕ) → List ℕ
header_spelled header offset_size length_size =
    unsummed header offset_size length_size
    ++ le 4 (hashlittle (unsummed header offset_size length_size))
