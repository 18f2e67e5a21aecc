-- The mix and the final mix undone: a definition undoes one line of the macros mix and final of
-- lookup3.c (Bob Jenkins, May 2006, public domain), with the line's rotation; the whole undoes the
-- last line first.
use Rattle.std.specs.Prelude.{ℕ, bit_xor}
use Rattle.checksum.specs.Words.{add32, sub32, rot}
use Rattle.checksum.specs.declared.mixing.MixState.{MixState}

-- `sub_xor` undone: x is exclusive-ored with y rotated, then y is added to it
abbrev pub xor_add : (x y rotation : ℕ) → ℕ
xor_add x y rotation = add32 (bit_xor x (rot y rotation)) y

-- `xor_sub` undone: y rotated is added to x, then x is exclusive-ored with y
abbrev pub add_xor : (x y rotation : ℕ) → ℕ
add_xor x y rotation = bit_xor (add32 x (rot y rotation)) y

-- ---- the macro mix

-- a line for a: b is taken from c again, and what c did to a is undone
abbrev pub unmix_a : (rotation : ℕ) (s : MixState) → MixState
unmix_a rotation s = let c = sub32 s.c s.b in record { a = xor_add s.a c rotation; b = s.b; c = c }

-- a line for b: likewise c from a, and what a did to b
abbrev pub unmix_b : (rotation : ℕ) (s : MixState) → MixState
unmix_b rotation s = let a = sub32 s.a s.c in record { a = a; b = xor_add s.b a rotation; c = s.c }

-- a line for c: likewise a from b, and what b did to c
abbrev pub unmix_c : (rotation : ℕ) (s : MixState) → MixState
unmix_c rotation s = let b = sub32 s.b s.a in record { a = s.a; b = b; c = xor_add s.c b rotation }

-- its six lines, the last first
abbrev pub unmixed : (s : MixState) → MixState
unmixed s = unmix_a 4 (unmix_b 6 (unmix_c 8 (unmix_a 16 (unmix_b 19 (unmix_c 4 s)))))

-- ---- the macro final

-- a line for c: what b did to it is undone
abbrev pub unfinal_c : (rotation : ℕ) (s : MixState) → MixState
unfinal_c rotation s = record { a = s.a; b = s.b; c = add_xor s.c s.b rotation }

-- a line for a: likewise what c did
abbrev pub unfinal_a : (rotation : ℕ) (s : MixState) → MixState
unfinal_a rotation s = record { a = add_xor s.a s.c rotation; b = s.b; c = s.c }

-- a line for b: likewise what a did
abbrev pub unfinal_b : (rotation : ℕ) (s : MixState) → MixState
unfinal_b rotation s = record { a = s.a; b = add_xor s.b s.a rotation; c = s.c }

-- its seven lines, the last first
abbrev pub unfinal_mixed : (s : MixState) → MixState
unfinal_mixed s =
    unfinal_c 14 (unfinal_a 11 (unfinal_b 25 (unfinal_c 16
    (unfinal_a 4 (unfinal_b 14 (unfinal_c 24 s))))))
