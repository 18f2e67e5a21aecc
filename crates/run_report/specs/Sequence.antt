-- The pseudo-random bytes that the programs work on.
use Rattle.std.specs.Prelude.{ℕ, zero, suc, ◌+◌, ◌*◌, ◌/◌, ◌%◌, ◌^◌, List, [], ◌∷◌}

-- a linear congruence, with the multiplier and the increment of the C standard's example of rand
abbrev pub next : (number : ℕ) → ℕ
next number = (number * 1103515245 + 12345) % 2 ^ 32

-- the byte that a number gives: its bits 16 to 23
abbrev pub byte_of : (number : ℕ) → ℕ
byte_of number = number / 2 ^ 16 % 2 ^ 8

-- so many bytes after a number: one of each number that follows it
unfoldable pub bytes_after : (number count : ℕ) → List ℕ
bytes_after number zero = []
bytes_after number (suc count) = byte_of (next number) ∷ bytes_after (next number) count
