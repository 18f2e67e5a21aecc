-- Four bytes that count as zero: a direct block's checksum covers the whole block, its own field as
-- zero.
use Rattle.std.specs.Prelude.{ℕ, List, replicate}
use Rattle.fields.specs.LittleEndian.{put}

-- the bytes with four zeros in place of those from the place on
abbrev pub zeroed : (bytes : List ℕ) (place : ℕ) → List ℕ
zeroed bytes place = put bytes place (replicate 4 0)
