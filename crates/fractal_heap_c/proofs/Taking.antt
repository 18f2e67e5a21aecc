-- What a caller takes from a file by the slot.
use Rattle.std.proofs.Common.{◌≡◌, ℕ, ◌+◌, ◌<◌, ◌≤◌, List, length, take, drop, ◌∙◌, arith}
use Rattle.fields.specs.LittleEndian.{le_at}
use Rattle.fractal_heap_c.specs.InSlot.{NamesPlace}
use Rattle.fractal_heap_c.proofs.Naming.{in-file}

module _ {result : ℕ} {slot file bytes : List ℕ} (N : NamesPlace result slot file bytes) where
  -- bytes that are there end in the file
  pub taken-in-file : 0 < length bytes → le_at slot 0 8 + le_at slot 8 8 ≤ length file
  taken-in-file s = omega (arith, in-file (le_at slot 0 8) file bytes s N.bytes_there, N.names_length)

  pub taken : (start count : ℕ) → start ≡ le_at slot 0 8 → count ≡ le_at slot 8 8 → take count (drop start file) ≡ bytes
  taken start count a b = (λ j. take ((b ∙ N.names_length) j) (drop (a j) file)) ∙ N.bytes_there
