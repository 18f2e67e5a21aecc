-- What is spelled is read, and what is read is spelled.
use Rattle.std.specs.Prelude.{ℕ, ◌+◌, ◌<◌, ◌≡◌, List, ◌++◌, true, length, drop, slice_index, Ok}
use Rattle.fields.specs.Widths.{legal}
use Rattle.fractal_heap.specs.Header.{header_at, header_numbers, without_filters}
use Rattle.fractal_heap.specs.Spelling.{AllFit, field_widths, header_spelled}
use Rattle.fractal_heap.specs.declared.header.FractalHeapHeader.{FractalHeapHeader}

-- a header without filters whose fields fit is read where its bytes stand, whatever else the file
-- holds; what it has of filters is not in its bytes
abbrev pub SpelledIsRead : Type 0
SpelledIsRead = (header : FractalHeapHeader) (file : List ℕ) (pos offset_size length_size : ℕ)
    (rest : List ℕ) → legal offset_size ≡ true → legal length_size ≡ true
    → header.io_filter_encoded_length ≡ 0
    → AllFit (field_widths offset_size length_size) (header_numbers header)
    → drop pos file ≡ header_spelled header offset_size length_size ++ rest
    → header_at file pos offset_size length_size ≡ Ok (without_filters header)

-- a header without filters that is read has fields that fit, and stands there as it is spelled,
-- byte for byte
abbrev pub ReadIsSpelled : Type 0
ReadIsSpelled = (header : FractalHeapHeader) (file : List ℕ) (pos offset_size length_size : ℕ)
    → ((j : ℕ) → slice_index file j < 256)
    → header.io_filter_encoded_length ≡ 0 → header_at file pos offset_size length_size ≡ Ok header
    → AllFit (field_widths offset_size length_size) (header_numbers header)
    × (drop pos file ≡ header_spelled header offset_size length_size
    ++ drop (pos + length (header_spelled header offset_size length_size)) file)
