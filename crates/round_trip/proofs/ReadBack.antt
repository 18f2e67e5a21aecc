-- An ID in just as many bytes is all of them, and the object that is read by it.
use Rattle.std.proofs.Common.{◌≡◌, ℕ, ◌+◌, ◌≤◌, List, length, Ok, refl, append-nil, arith, drop_of_length-le}
use Rattle.fields.specs.LittleEndian.{put}
use Rattle.table.specs.Table.{fixed}
use Rattle.ids.specs.Written.{managed_id}
use Rattle.ids.proofs.Ids.{id-length}
use Rattle.ids.specs.Checks.{id_checked}
use Rattle.fractal_heap.specs.declared.header.FractalHeapHeader.{FractalHeapHeader}
use Rattle.fractal_heap.specs.Read.{managed_unchecked}
use Rattle.round_trip.specs.Objects.{object_at}

pub id_written : (s : List ℕ) (o n : ℕ) → length s ≡ 8 → put s 0 (managed_id fixed o n) ≡ managed_id fixed o n
unfolding put
id_written s o n e =
    let l : length s ≤ 0 + length (managed_id fixed o n) = rw (id-length o n, e) (omega arith) in
    rw (drop_of_length-le s l) (append-nil (managed_id fixed o n))

-- an object is read by the ID that the writer accepts
pub read-by : (h : FractalHeapHeader) (s : List ℕ) (w o n : ℕ) → id_checked fixed o n 8 ≡ Ok tt
    → object_at h s w o n ≡ managed_unchecked h s (managed_id fixed o n) w
read-by h s w o n e = rw e refl
