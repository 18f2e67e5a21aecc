-- What is stored reads back, at every width.
use Rattle.std.proofs.Common.{◌≡◌, refl, ap, ◌∙◌, ℕ, zero, suc, ◌+◌, ◌*◌, ◌%◌, ◌^◌, ◌≤◌, List, length, replicate}
use Rattle.std.proofs.Common.{arith, pow_pos}
use Rattle.std.proofs.lemmas.List.{length-replicate}
use Rattle.std.specs.Prelude.{true, Ok}
use Rattle.fields.specs.LittleEndian.{le, value, le_at, put}
use Rattle.fields.specs.Widths.{legal}
use Rattle.fields.proofs.LittleEndian.{length-le, value-le, le-undefined, length-put, put-here, put-before, put-after}
use Rattle.fields.proofs.LittleEndian.{pow-byte}
use Rattle.fields.proofs.Writing.{legal_narrow, mid_put}
use Rattle.fields.specs.Fields.{offset_at}
use Rattle.fields.specs.Undefined.{undefined_address}
use Rattle.fields.proofs.Fields.{offset_read}
use Rattle.fields.specs.Laws.{StoresReadBack, OnesUndefined}

-- the bytes of a number, stored, are the number cut to the width
pub stored-reads_back : (s : List ℕ) (p w x : ℕ) → p + w ≤ length s
    → le_at (put s p (le w x)) p w ≡ x % 2 ^ (8 * w)
unfolding le_at
stored-reads_back s p w x room =
    ap value (rw (length-le w x) at (put-here s p (le w x) (rw (length-le w x) room))) ∙ value-le w x

-- and all else is as it was
pub stores-read-back : StoresReadBack
stores-read-back s p w x room =
    let fits : p + length (le w x) ≤ length s = rw (length-le w x) room in
    record {
      reads = stored-reads_back s p w x room;
      same_length = length-put s p (le w x) fits;
      before = put-before s p (le w x) fits;
      after = rw (length-le w x) at (put-after s p (le w x) fits);
    }

pub ones-undefined : OnesUndefined
ones-undefined w h = le-undefined w h

-- an address that was stored is read back, cut to its width
pub address_reads_back : (s : List ℕ) (p a w : ℕ) → legal w ≡ true → p + w ≤ length s
    → offset_at (put s p (le w a)) p w ≡ Ok (a % 2 ^ (8 * w))
address_reads_back s p a w l room =
    let still : length (put s p (le w a)) ≡ length s = length-put s p (le w a) (rw (length-le w a) room) in
    offset_read (put s p (le w a)) p w l (rw still room) ∙ ap Ok (stored-reads_back s p w a room)

-- bytes of ones are the undefined address
value-ones : (w : ℕ) → value (replicate w 255) ≡ undefined_address w
unfolding value
value-ones zero = refl
value-ones (suc w) = omega (arith, value-ones w, pow_pos (8 * w), pow-byte w)

-- so is the undefined address
pub undefined_reads_back : (s : List ℕ) (p w : ℕ) → legal w ≡ true → p + w ≤ length s
    → offset_at (put s p (replicate w 255)) p w ≡ Ok (undefined_address w)
unfolding le_at
undefined_reads_back s p w l room =
    let ones : List ℕ = replicate w 255 in
    let many : length ones ≡ w = length-replicate w 255 in
    let here : p + length ones ≤ length s = omega (arith, many, room) in
    let still : p + w ≤ length (put s p ones) = omega (arith, length-put s p ones here) in
    offset_read (put s p ones) p w l still
    ∙ ap Ok (ap value (rw many at (put-here s p ones here)) ∙ value-ones w)

-- for a store of an address
pub ruleset addresses = (legal_narrow, address_reads_back)

-- and for one of the undefined address
pub ruleset undefined_addresses = (mid_put, undefined_reads_back)
