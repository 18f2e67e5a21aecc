-- HDF5 File Format Specification 3.0, I.A: every checksum is Jenkins' lookup3. lookup3.c (Bob
-- Jenkins, May 2006, public domain), hashlittle, by the last of its three ways, byte by byte. That
-- it is hashlittle with initval 0 the text does not say: it is what HDF5's files have
-- (docs/RULES.md). Each definition says which part it follows.
use Rattle.std.specs.Prelude.{ℕ, zero, suc, ◌+◌, ◌-◌, ◌*◌, ◌/◌, ◌%◌, ◌^◌, if◌then◌else◌, List}
use Rattle.std.specs.Prelude.{length, drop, ◌==◌}
use Rattle.std.specs.Prelude.{nat_le, slice_index}
use Rattle.fields.specs.LittleEndian.{le_at}
use Rattle.checksum.specs.Words.{add32}
use Rattle.checksum.specs.Mix.{mixed, final_mixed}
use Rattle.checksum.specs.declared.mixing.MixState.{MixState}

-- the start: each word is hexadecimal DEADBEEF plus the length as a 32-bit number, plus initval, 0
abbrev pub first_word : (length : ℕ) → ℕ
first_word n = add32 0xdeadbeef (n % 2 ^ 32)

abbrev pub begun : (length : ℕ) → MixState
begun n = record { a = first_word n; b = first_word n; c = first_word n }

-- the bytes of a group, and the most that a tail has
abbrev pub group_size : ℕ
group_size = 12

-- the loop's twelve additions, of the group from p on: four to a, four to b, four to c, shifted by
-- 0, 8, 16 and 24 bits
abbrev pub grouped : (bytes : List ℕ) (p : ℕ) (s : MixState) → MixState
grouped bytes p s = record {
  a = add32 s.a (le_at bytes p 4);
  b = add32 s.b (le_at bytes (p + 4) 4);
  c = add32 s.c (le_at bytes (p + 8) 4);
}

-- the loop, while more bytes are left than a group has: one group is added and mixed. n such groups
-- from p on
unfoldable pub mixed_groups : (bytes : List ℕ) (p n : ℕ) (s : MixState) → MixState
mixed_groups bytes p zero s = s
mixed_groups bytes p (suc n) s = mixed_groups bytes (p + group_size) n (mixed (grouped bytes p s))

-- how often more than a group remains of n bytes: that this is the loop's count is the law
-- `MixedWhileMore`
abbrev pub groups_of : (n : ℕ) → ℕ
groups_of n = (n - 1) / group_size

-- the words after the loop
abbrev pub body : (bytes : List ℕ) → MixState
body bytes = mixed_groups bytes 0 (groups_of (length bytes)) (begun (length bytes))

-- the bytes that are left after it
abbrev pub tail_of : (bytes : List ℕ) → List ℕ
tail_of bytes = drop (group_size * groups_of (length bytes)) bytes

-- case n of the switch adds x, the n-th byte: cases 1 to 4 to a, 5 to 8 to b, 9 to 12 to c, shifted
-- by 0, 8, 16 and 24 bits in turn
abbrev pub case_added : (n x : ℕ) (s : MixState) → MixState
case_added n x s =
    let y = x * 2 ^ ((n - 1) % 4 * 8) in
    if nat_le n 4 then record { a = add32 s.a y; b = s.b; c = s.c }
    else if nat_le n 8 then record { a = s.a; b = add32 s.b y; c = s.c }
    else record { a = s.a; b = s.b; c = add32 s.c y }

-- a tail enters at the case of its length and falls through to case 1, so it meets case n if it has
-- n bytes or more
abbrev pub case_met : (n : ℕ) (tail : List ℕ) (s : MixState) → MixState
case_met n tail s = if nat_le n (length tail) then case_added n (slice_index tail (n - 1)) s else s

-- the switch: the cases from n down
unfoldable pub switched : (n : ℕ) (tail : List ℕ) (s : MixState) → MixState
switched zero tail s = s
switched (suc n) tail s = switched n tail (case_met (suc n) tail s)

-- the words after the switch's first cases, so many of them from case 12 down
unfoldable pub passed : (done : ℕ) (tail : List ℕ) (s : MixState) → MixState
passed zero tail s = s
passed (suc done) tail s = case_met (group_size - done) tail (passed done tail s)

-- the words after case n: the cases from 12 down to n are done; after case 13, which there is not,
-- none is
unfoldable pub after : (n : ℕ) (tail : List ℕ) (s : MixState) → MixState
after n tail s = passed (group_size + 1 - n) tail s

-- three words added to three words
abbrev pub plus : (s added : MixState) → MixState
plus s added = record { a = add32 s.a added.a; b = add32 s.b added.b; c = add32 s.c added.c }

-- case 0 gives c as it is; the other cases give it after the final mix
abbrev pub ended : (tail : List ℕ) (s : MixState) → ℕ
ended tail s = if length tail == 0 then s.c else (final_mixed (switched group_size tail s)).c

-- hashlittle(bytes, length, 0)
unfoldable pub hashlittle : (bytes : List ℕ) → ℕ
hashlittle bytes = ended (tail_of bytes) (body bytes)
