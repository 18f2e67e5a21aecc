-- Laws of a path's last block, one block at a time.
use Rattle.std.proofs.Common.{◌≡◌, refl, ap, ℕ, zero, suc, ◌<◌, List, [], ◌∷◌, arith}
use Rattle.std.specs.Prelude.{Some, None, Ok, Err}
use Rattle.std.specs.Option.{option_map}
use Rattle.refusals.specs.declared.FormatError.{FormatError}
use Rattle.reading.specs.declared.rows.DoublingTable.{DoublingTable}
use Rattle.reading.specs.declared.children.HeapChild.TheVariants.{Direct, Indirect}
use Rattle.reading.specs.Blocks.{child_at}
use Rattle.checked_reading.specs.declared.Checked.{Checked}
use Rattle.checked_reading.specs.declared.path.BlockSite.{BlockSite}
use Rattle.checked_reading.specs.Blocks.{indirect_size, indirect_checked}
use Rattle.checked_reading.specs.Path.{Block, block_of, if_passed, from_child, path_from, last_from, last_of}
use Rattle.checked_reading.specs.Path.{block_site}

-- where the last block of a path stands, or this site where it has none
abbrev pub site_from : (site : BlockSite) (path : List Block) → BlockSite
site_from x [] = x
site_from x (b ∷ bs) = site_from (block_site b) bs

last-site : (b : Block) (bs : List Block) → block_site (last_from b bs) ≡ site_from (block_site b) bs
last-site b [] = refl
last-site b (c ∷ bs) = last-site c bs

abbrev site_at : (address heap_offset : ℕ) → BlockSite
site_at a start = record { address = a; heap_offset = start }

module _ (heap : Checked) (table : DoublingTable) (s : List ℕ) (w t : ℕ) where
  pub path_none : (d a n start : ℕ) (x : BlockSite) → d ≡ 0 → site_from x (path_from heap table s w t d a n start) ≡ x
  unfolding path_from
  path_none d a n start x e = rw e

  -- a path that begins has a last block
  pub path_begun : (d a n start : ℕ) (x : BlockSite) → 0 < d
      → option_map block_site (last_of (path_from heap table s w t d a n start))
      ≡ Some (site_from x (path_from heap table s w t d a n start))
  unfolding path_from
  path_begun zero a n start x e = absurd (omega arith)
  path_begun (suc d) a n start x e =
      ap Some (last-site (block_of a start (indirect_size table w n))
      (if_passed (indirect_checked heap table s w a n start) (from_child (child_at table s a n start t w)
      (λ b m o. path_from heap table s w t d b m o))))

  -- it ends in a block that is refused, or has no child for the target, and in a direct one
  pub stops_refused : (d a n start : ℕ) (x : BlockSite) (f : FormatError) → 0 < d
      → indirect_checked heap table s w a n start ≡ Err f
      → site_from x (path_from heap table s w t d a n start) ≡ site_at a start
  unfolding path_from
  stops_refused zero a n start x f e h = absurd (omega arith)
  stops_refused (suc d) a n start x f e h = rw h

  pub stops_childless : (d a n start : ℕ) (x : BlockSite) (f : FormatError) → 0 < d
      → indirect_checked heap table s w a n start ≡ Ok tt → child_at table s a n start t w ≡ Err f
      → site_from x (path_from heap table s w t d a n start) ≡ site_at a start
  unfolding path_from
  stops_childless zero a n start x f e h g = absurd (omega arith)
  stops_childless (suc d) a n start x f e h g = rw (h, g)

  pub stops_missing : (d a n start : ℕ) (x : BlockSite) → 0 < d
      → indirect_checked heap table s w a n start ≡ Ok tt → child_at table s a n start t w ≡ Ok None
      → site_from x (path_from heap table s w t d a n start) ≡ site_at a start
  unfolding path_from
  stops_missing zero a n start x e h g = absurd (omega arith)
  stops_missing (suc d) a n start x e h g = rw (h, g)

  pub stops_direct : (d a n start : ℕ) (x : BlockSite) (b z o : ℕ) → 0 < d
      → indirect_checked heap table s w a n start ≡ Ok tt
      → child_at table s a n start t w ≡ Ok (Some (Direct b z o))
      → site_from x (path_from heap table s w t d a n start) ≡ site_at b o
  unfolding path_from
  stops_direct zero a n start x b z o e h g = absurd (omega arith)
  stops_direct (suc d) a n start x b z o e h g = rw (h, g)

  -- and goes on in a child that is an indirect block
  pub stops_deeper : (d k a n start : ℕ) (x : BlockSite) (b m o : ℕ) → d ≡ suc k
      → indirect_checked heap table s w a n start ≡ Ok tt
      → child_at table s a n start t w ≡ Ok (Some (Indirect b m o))
      → site_from x (path_from heap table s w t d a n start)
      ≡ site_from (site_at a start) (path_from heap table s w t k b m o)
  unfolding path_from
  stops_deeper d k a n start x b m o e h g = rw (e, h, g)

-- what the last block of a path comes to, step by step
pub ruleset stopping = (path_none, path_begun, stops_refused, stops_childless, stops_missing, stops_direct)
