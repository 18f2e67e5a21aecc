-- The mix and the final mix are undone by their inverses, before and after.
use Rattle.std.proofs.Common.{◌≡◌, ℕ, ◌-◌, ◌*◌, ◌/◌, ◌%◌, ◌^◌, ◌<◌, refl, sym, ap, ◌∙◌, arith}
use Rattle.std.proofs.Math.Nat.{div-le_self}
use Rattle.std.proofs.lemmas.Nat.{or_lt, xor_lt}
use Rattle.std.specs.Int.Bits.{bit_xor, xor_assoc, xor_self, xor_zero_r}
use Rattle.checksum.specs.Words.{add32, sub32, rot, sub_xor, xor_sub}
use Rattle.checksum.specs.Mix.{mix_a, mix_b, mix_c, mixed, final_a, final_b, final_c, final_mixed}
use Rattle.checksum.specs.Unmix.{xor_add, add_xor, unmix_a, unmix_b, unmix_c, unmixed}
use Rattle.checksum.specs.Unmix.{unfinal_a, unfinal_b, unfinal_c, unfinal_mixed}
use Rattle.checksum.specs.Undoing.{Undoes, Injective}
use Rattle.checksum.specs.declared.mixing.MixState.{MixState}

-- ---- words

pub add_lt : (x y : ℕ) → add32 x y < 2 ^ 32
add_lt x y = omega arith

sub_lt : (x y : ℕ) → sub32 x y < 2 ^ 32
sub_lt x y = omega arith

sub_add : {x y : ℕ} → x < 2 ^ 32 → y < 2 ^ 32 → sub32 (add32 x y) y ≡ x
sub_add h l = omega arith

add_sub : {x y : ℕ} → x < 2 ^ 32 → y < 2 ^ 32 → add32 (sub32 x y) y ≡ x
add_sub h l = omega arith

xor_twice : (x y : ℕ) → bit_xor (bit_xor x y) y ≡ x
xor_twice x y = rw (xor_assoc, xor_self, xor_zero_r) refl

rot_lt : {x : ℕ} (k : ℕ) → x < 2 ^ 32 → rot x k < 2 ^ 32
rot_lt {x} k h =
    let low : ℕ = 2 ^ ((32 - k % 32) % 32) in
    or_lt 32 (x * 2 ^ (k % 32) % 2 ^ 32) (x / low) (omega arith) (omega (arith, div-le_self x low))

module _ {x y : ℕ} (k : ℕ) (h : x < 2 ^ 32) (l : y < 2 ^ 32) where
  sub_xor_lt : sub_xor x y k < 2 ^ 32
  sub_xor_lt = xor_lt 32 _ _ (sub_lt x y) (rot_lt k l)

  xor_add_lt : xor_add x y k < 2 ^ 32
  xor_add_lt = add_lt _ _

  xor_sub_lt : xor_sub x y k < 2 ^ 32
  xor_sub_lt = sub_lt _ _

  add_xor_lt : add_xor x y k < 2 ^ 32
  add_xor_lt = xor_lt 32 _ _ (add_lt _ _) l

  sub_xor_undone : xor_add (sub_xor x y k) y k ≡ x
  sub_xor_undone = rw (xor_twice (sub32 x y) (rot y k)) (add_sub h l)

  xor_add_undone : sub_xor (xor_add x y k) y k ≡ x
  xor_add_undone = rw (sub_add (xor_lt 32 _ _ h (rot_lt k l)) l) (xor_twice x (rot y k))

  xor_sub_undone : add_xor (xor_sub x y k) y k ≡ x
  xor_sub_undone = rw (add_sub (xor_lt 32 _ _ h l) (rot_lt k l)) (xor_twice x y)

  add_xor_undone : xor_sub (add_xor x y k) y k ≡ x
  add_xor_undone = rw (xor_twice (add32 x (rot y k)) y) (sub_add h (rot_lt k l))

-- ---- one line, and line after line

infixl 40 ◌then◌
◌then◌ : {f g h i : MixState → MixState} → Undoes f g → Undoes h i → Undoes (λ s. h (f s)) (λ s. g (i s))
◌then◌ {f} {g} {h} {i} u v =
    record {
      keeps = λ s k. v.keeps (f s) (u.keeps s k);
      keeps_back = λ s k. u.keeps_back (i s) (v.keeps_back s k);
      after = λ s k. ap g (v.after (f s) (u.keeps s k)) ∙ u.after s k;
      before = λ s k. ap h (u.before (i s) (v.keeps_back s k)) ∙ v.before s k;
    }

module _ (k : ℕ) where
  mix-a : Undoes (mix_a k) (unmix_a k)
  mix-a =
      record {
        keeps = λ s h. record { a = sub_xor_lt k h.a h.c; b = h.b; c = add_lt s.c s.b };
        keeps_back = λ s h. record { a = xor_add_lt k h.a (sub_lt s.c s.b); b = h.b; c = sub_lt s.c s.b };
        after = λ s h. rw (sub_add h.c h.b, sub_xor_undone k h.a h.c) refl;
        before = λ s h. rw (xor_add_undone k h.a (sub_lt s.c s.b), add_sub h.c h.b) refl;
      }

  mix-b : Undoes (mix_b k) (unmix_b k)
  mix-b =
      record {
        keeps = λ s h. record { a = add_lt s.a s.c; b = sub_xor_lt k h.b h.a; c = h.c };
        keeps_back = λ s h. record { a = sub_lt s.a s.c; b = xor_add_lt k h.b (sub_lt s.a s.c); c = h.c };
        after = λ s h. rw (sub_add h.a h.c, sub_xor_undone k h.b h.a) refl;
        before = λ s h. rw (xor_add_undone k h.b (sub_lt s.a s.c), add_sub h.a h.c) refl;
      }

  mix-c : Undoes (mix_c k) (unmix_c k)
  mix-c =
      record {
        keeps = λ s h. record { a = h.a; b = add_lt s.b s.a; c = sub_xor_lt k h.c h.b };
        keeps_back = λ s h. record { a = h.a; b = sub_lt s.b s.a; c = xor_add_lt k h.c (sub_lt s.b s.a) };
        after = λ s h. rw (sub_add h.b h.a, sub_xor_undone k h.c h.b) refl;
        before = λ s h. rw (xor_add_undone k h.c (sub_lt s.b s.a), add_sub h.b h.a) refl;
      }

  final-a : Undoes (final_a k) (unfinal_a k)
  final-a =
      record {
        keeps = λ s h. record { a = xor_sub_lt k h.a h.c; b = h.b; c = h.c };
        keeps_back = λ s h. record { a = add_xor_lt k h.a h.c; b = h.b; c = h.c };
        after = λ s h. rw (xor_sub_undone k h.a h.c) refl;
        before = λ s h. rw (add_xor_undone k h.a h.c) refl;
      }

  final-b : Undoes (final_b k) (unfinal_b k)
  final-b =
      record {
        keeps = λ s h. record { a = h.a; b = xor_sub_lt k h.b h.a; c = h.c };
        keeps_back = λ s h. record { a = h.a; b = add_xor_lt k h.b h.a; c = h.c };
        after = λ s h. rw (xor_sub_undone k h.b h.a) refl;
        before = λ s h. rw (add_xor_undone k h.b h.a) refl;
      }

  final-c : Undoes (final_c k) (unfinal_c k)
  final-c =
      record {
        keeps = λ s h. record { a = h.a; b = h.b; c = xor_sub_lt k h.c h.b };
        keeps_back = λ s h. record { a = h.a; b = h.b; c = add_xor_lt k h.c h.b };
        after = λ s h. rw (xor_sub_undone k h.c h.b) refl;
        before = λ s h. rw (add_xor_undone k h.c h.b) refl;
      }

-- ---- the macros

pub mix-undone : Undoes mixed unmixed
mix-undone = mix-a 4 then mix-b 6 then mix-c 8 then mix-a 16 then mix-b 19 then mix-c 4

pub final-undone : Undoes final_mixed unfinal_mixed
final-undone = final-c 14 then final-a 11 then final-b 25 then final-c 16 then final-a 4 then final-b 14 then final-c 24

pub undone-tells : {f g : MixState → MixState} → Undoes f g → Injective f
undone-tells {f} {g} u = record { tells = λ s t h k e. sym (u.after s h) ∙ ap g e ∙ u.after t k }
