-- What a change of the bytes does to the words of hashlittle.
use Rattle.std.specs.Prelude.{ℕ, suc, ◌≡◌, ◌<◌, ◌+◌, ◌*◌, List, length, take, drop, slice_index}
use Rattle.checksum.specs.Mix.{final_mixed}
use Rattle.checksum.specs.Lookup3.{group_size, mixed_groups, begun, body, tail_of}
use Rattle.checksum.specs.Lookup3.{switched, hashlittle}
use Rattle.checksum.specs.declared.mixing.MixState.{MixState}

-- the words after the mix of the n-th group
abbrev pub words_after : (bytes : List ℕ) (n : ℕ) → MixState
words_after bytes n = mixed_groups bytes 0 n (begun (length bytes))

-- the three words at the end
abbrev pub final_words : (bytes : List ℕ) → MixState
final_words bytes = final_mixed (switched group_size (tail_of bytes) (body bytes))

-- a list of bytes
pub record Bytes (xs : List ℕ) : Type 0 where
  pub below : (i : ℕ) → slice_index xs i < 256

-- two lists of bytes, of one length, that differ, but only in the 12, or fewer at the end, behind
-- the first 12 * j
pub record OnePart (xs ys : List ℕ) (j : ℕ) : Type 0 where
  pub bytes : Bytes xs
  pub others : Bytes ys
  pub lengths : length xs ≡ length ys
  pub before : take (group_size * j) xs ≡ take (group_size * j) ys
  pub behind : drop (group_size * j + group_size) xs ≡ drop (group_size * j + group_size) ys
  pub differ : xs ≡ ys → ⊥

-- such a part of 12 bytes, with more bytes behind it: a group that is mixed
pub record OneGroup (xs ys : List ℕ) (j : ℕ) : Type 0 where
  pub part : OnePart xs ys j
  pub bytes_behind : group_size * j + group_size < length xs

-- then the words after the mix of that group differ
pub record GroupsShow : Type 0 where
  pub shows : (xs ys : List ℕ) (j : ℕ) → OneGroup xs ys j
      → words_after xs (suc j) ≡ words_after ys (suc j) → ⊥

-- and the words at the end differ, wherever the part stands; the third of them is the checksum
-- where there are bytes
pub record PartsShow : Type 0 where
  pub shows : (xs ys : List ℕ) (j : ℕ) → OnePart xs ys j → final_words xs ≡ final_words ys → ⊥
  pub third : (bytes : List ℕ) → 0 < length bytes → (final_words bytes).c ≡ hashlittle bytes
