-- The bytes of an ID are those of one number.
use Rattle.std.proofs.Common.{◌≡◌, ap, ◌∙◌, ℕ, zero, suc, ◌+◌, ◌*◌, ◌/◌, ◌%◌, ◌^◌, ◌<◌, List, ◌∷◌, ◌++◌, length}
use Rattle.std.proofs.Common.{length-append, arith}
use Rattle.fields.specs.LittleEndian.{le}
use Rattle.fields.proofs.LittleEndian.{pow-byte, length-le}
use Rattle.table.specs.Table.{fixed}
use Rattle.ids.specs.Written.{managed_id}

-- an ID has eight bytes
pub id-length : (o n : ℕ) → length (managed_id fixed o n) ≡ 8
id-length o n = simp (length-append, length-le) (omega arith)

-- i bytes of a number, then j of another
le-add : (i j x y : ℕ) → x < 2 ^ (8 * i) → le (i + j) (x + y * 2 ^ (8 * i)) ≡ le i x ++ le j y
unfolding le
le-add zero j x y h =
    let none : 0 + j ≡ j = omega arith in
    let e : x + y * 2 ^ (8 * 0) ≡ y = omega arith in
    rw (none, e)
le-add (suc i) j x y h =
    let more : suc i + j ≡ suc (i + j) = omega arith in
    let byte : 2 ^ (8 * suc i) ≡ 2 ^ (8 * i) * 256 = pow-byte i in
    let small : x / 256 < 2 ^ (8 * i) = omega (arith, h, byte) in
    let first : (x + y * 2 ^ (8 * suc i)) % 256 ≡ x % 256 = rw byte (grind arith) in
    let rest : (x + y * 2 ^ (8 * suc i)) / 256 ≡ x / 256 + y * 2 ^ (8 * i) = rw byte (grind arith) in
    rw (more, first, rest) (ap (λ (bs : List ℕ). x % 256 ∷ bs) (le-add i j (x / 256) y small))

-- an ID is the bytes of one number
pub id_in_one : (o n : ℕ) → o < 2 ^ 40 → le 8 (o * 0x100 + n * 0x1000000000000) ≡ managed_id fixed o n
id_in_one o n h =
    let e : o * 0x100 + n * 0x1000000000000 ≡ 0 + (o + n * 2 ^ (8 * 5)) * 2 ^ (8 * 1) = omega arith in
    ap (le 8) e ∙ le-add 1 7 0 (o + n * 2 ^ (8 * 5)) (omega arith)
    ∙ ap (λ (bs : List ℕ). le 1 0 ++ bs) (le-add 5 2 o n h)
