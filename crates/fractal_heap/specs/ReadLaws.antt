-- What is read lies in what it was read from.
use Rattle.std.specs.Prelude.{ℕ, ◌+◌, ◌*◌, ◌<◌, ◌≤◌, ◌≡◌, List, true, length}
use Rattle.fields.specs.Widths.{legal}
use Rattle.fractal_heap.specs.declared.header.FractalHeapHeader.{FractalHeapHeader}
use Rattle.fractal_heap.specs.Header.{sum_place, header_end, without_filters}

-- a header of these sizes at `pos` of the file: both are legal, and all of its fields and its
-- checksum are in the file
pub record HeaderFits (file : List ℕ) (pos offset_size length_size : ℕ)
    (header : FractalHeapHeader) : Type 0 where
  pub offsets : legal offset_size ≡ true
  pub lengths : legal length_size ≡ true
  pub fields : pos + header_end offset_size length_size + 4 ≤ length file
  pub sum :
      sum_place header.io_filter_encoded_length length_size
      (pos + header_end offset_size length_size)
      + 4 ≤ length file

-- the filters of a header of these sizes at `pos`: without filters the three are 0; else their
-- information begins at this place of the file
pub record FiltersFit (pos offset_size length_size : ℕ) (header : FractalHeapHeader) : Type 0 where
  pub unfiltered : header.io_filter_encoded_length ≡ 0 → without_filters header ≡ header
  pub filtered : 0 < header.io_filter_encoded_length
      → header.io_filter_information_position ≡ pos + 26 + 13 * length_size + 3 * offset_size
