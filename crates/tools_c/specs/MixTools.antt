-- What the C functions over mixes do to the words that are lent.
use Rattle.std.specs.Prelude.{ℕ, List, length, nat_lt, if◌then◌else◌, slice_index, slice_set}
use Rattle.refusals.specs.Refusals.{slice_too_short}
use Rattle.checksum.specs.declared.mixing.MixState.{MixState}

-- the first three words as a state
abbrev pub state_of : (words : List ℕ) → MixState
state_of words =
    record { a = slice_index words 0; b = slice_index words 1; c = slice_index words 2 }

-- how many words a state has
abbrev pub state_words : ℕ
state_words = 3

-- 13 where there are fewer
abbrev pub mix_number : (words : List ℕ) → ℕ
mix_number words = if nat_lt (length words) state_words then slice_too_short else 0

-- a state put in their place
abbrev pub put_state : (words : List ℕ) (s : MixState) → List ℕ
put_state words s = slice_set (slice_set (slice_set words 0 s.a) 1 s.b) 2 s.c
