-- 32-bit words, uint32_t in lookup3.c (Bob Jenkins, May 2006, public domain): sums and differences
-- modulo 2^32, exclusive or, and its macro rot.
use Rattle.std.specs.Prelude.{ℕ, ◌+◌, ◌-◌, ◌%◌, ◌^◌, bit_xor}
use Rattle.std.specs.Int.{w32, rotate_left}

abbrev pub add32 : (x y : ℕ) → ℕ
add32 x y = (x + y) % 2 ^ 32

abbrev pub sub32 : (x y : ℕ) → ℕ
sub32 x y = (x + (2 ^ 32 - y)) % 2 ^ 32

-- the macro rot: x rotated by so many bits to the left
abbrev pub rot : (x rotation : ℕ) → ℕ
rot x rotation = rotate_left w32 x rotation

-- y is taken from x, then x is exclusive-ored with y rotated
abbrev pub sub_xor : (x y rotation : ℕ) → ℕ
sub_xor x y rotation = bit_xor (sub32 x y) (rot y rotation)

-- x is exclusive-ored with y, then y rotated is taken from it
abbrev pub xor_sub : (x y rotation : ℕ) → ℕ
xor_sub x y rotation = sub32 (bit_xor x y) (rot y rotation)
