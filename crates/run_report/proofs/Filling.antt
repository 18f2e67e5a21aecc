-- The bytes that are left to store, stored from here, are all of them.
use Rattle.std.proofs.Common.{ℕ, zero, suc, ◌+◌, ◌-◌, ◌≤◌, ◌<◌, ◌≡◌, refl, ap, List, [], drop, length, add-one, arith}
use Rattle.std.proofs.Math.ListN.{set}
use Rattle.std.proofs.Math.Seq.{sets}
use Rattle.std.proofs.lemmas.List.Edits.{sets-eq}
use Rattle.std.proofs.lemmas.List.{drop_all, append-nil}
use Rattle.run_report.specs.Sequence.{next, byte_of, bytes_after}

length-bytes : (x n : ℕ) → length (bytes_after x n) ≡ n
unfolding bytes_after
length-bytes x zero = refl
length-bytes x (suc n) = ap suc (length-bytes (next x) n)

-- a whole list is overwritten
pub fill_start : (l : List ℕ) (x : ℕ) → bytes_after x (length l) ≡ sets l 0 (bytes_after x (length l - 0))
fill_start l x =
    let v : List ℕ = bytes_after x (length l) in
    let n : length v ≡ length l = length-bytes x (length l) in
    let behind : drop (0 + length v) l ≡ [] = drop_all (0 + length v) l (omega arith) in
    let all : length l - 0 ≡ length l = omega arith in
    rw (all, sets-eq v l 0 (omega arith), behind, append-nil v)

pub fill_more : (l : List ℕ) (x : ℕ) {i n y : ℕ} → i < n → y ≡ next x
    → sets l i (bytes_after x (n - i)) ≡ sets (set l i (byte_of y)) (i + 1) (bytes_after y (n - (i + 1)))
unfolding bytes_after
fill_more l x {i} {n} h e = let k : n - i ≡ suc (n - (i + 1)) = omega arith in rw (k, e, add-one i)

pub fill_done : (l : List ℕ) (x : ℕ) {i n : ℕ} → n ≤ i → sets l i (bytes_after x (n - i)) ≡ l
unfolding bytes_after
fill_done l x {i} {n} h = let k : n - i ≡ 0 = omega arith in rw k
