-- The mix and the final mix of three words: the macros mix and final of lookup3.c (Bob Jenkins, May
-- 2006, public domain). A definition follows one line of C, with the line's rotation.
use Rattle.std.specs.Prelude.{ℕ}
use Rattle.checksum.specs.Words.{add32, sub_xor, xor_sub}
use Rattle.checksum.specs.declared.mixing.MixState.{MixState}

-- ---- the macro mix

-- a line for a: c is taken from it, then it is exclusive-ored with c rotated; b is added to c
abbrev pub mix_a : (rotation : ℕ) (s : MixState) → MixState
mix_a rotation s = record { a = sub_xor s.a s.c rotation; b = s.b; c = add32 s.c s.b }

-- a line for b: likewise with a; c is added to a
abbrev pub mix_b : (rotation : ℕ) (s : MixState) → MixState
mix_b rotation s = record { a = add32 s.a s.c; b = sub_xor s.b s.a rotation; c = s.c }

-- a line for c: likewise with b; a is added to b
abbrev pub mix_c : (rotation : ℕ) (s : MixState) → MixState
mix_c rotation s = record { a = s.a; b = add32 s.b s.a; c = sub_xor s.c s.b rotation }

-- its six lines in turn, with the rotations 4 6 8 16 19 4
abbrev pub mixed : (s : MixState) → MixState
mixed s = mix_c 4 (mix_b 19 (mix_a 16 (mix_c 8 (mix_b 6 (mix_a 4 s)))))

-- ---- the macro final

-- a line for c: it is exclusive-ored with b, then b rotated is taken from it
abbrev pub final_c : (rotation : ℕ) (s : MixState) → MixState
final_c rotation s = record { a = s.a; b = s.b; c = xor_sub s.c s.b rotation }

-- a line for a: likewise with c
abbrev pub final_a : (rotation : ℕ) (s : MixState) → MixState
final_a rotation s = record { a = xor_sub s.a s.c rotation; b = s.b; c = s.c }

-- a line for b: likewise with a
abbrev pub final_b : (rotation : ℕ) (s : MixState) → MixState
final_b rotation s = record { a = s.a; b = xor_sub s.b s.a rotation; c = s.c }

-- its seven lines in turn, with the rotations 14 11 25 16 4 14 24
abbrev pub final_mixed : (s : MixState) → MixState
final_mixed s =
    final_c 24 (final_b 14 (final_a 4 (final_c 16
    (final_b 25 (final_a 11 (final_c 14 s))))))
