-- The tests between planning and writing, in their order.
use Rattle.std.specs.Prelude.{ℕ, ◌+◌, ◌≡◌, ◌≤◌, ◌<◌, ◌==◌, nat_le, nat_lt, Result}
use Rattle.refusals.specs.Steps.{◌>>=◌, required}
use Rattle.refusals.specs.declared.FormatError.{FormatError}
use Rattle.refusals.specs.declared.FormatError.TheVariants.{ObjectBytesMismatch}
use Rattle.refusals.specs.declared.FormatError.TheVariants.{HeaderAddressTooLarge}
use Rattle.refusals.specs.declared.FormatError.TheVariants.{RegionAddressTooLarge}
use Rattle.fields.specs.Undefined.{undefined_address}
use Rattle.plan.specs.Checks.{places_checked}
use Rattle.region_blocks.specs.declared.Site.{Site}
use Rattle.fractal_heap_write.specs.declared.checks.Lent.{Lent}

-- as many bytes of objects are given as their sizes need: else 14
abbrev pub bytes_checked : (needed given : ℕ) → Result (Unit {0}) FormatError
bytes_checked needed given = required (needed == given) (ObjectBytesMismatch needed given)

-- the address of the heap's header is a defined one: else 15
abbrev pub header_address_checked : (offset_size address : ℕ) → Result (Unit {0}) FormatError
header_address_checked offset_size address =
    required (nat_lt address (undefined_address offset_size)) (HeaderAddressTooLarge address)

-- a region ends at or before the undefined address: else 15
abbrev pub region_address_checked : (offset_size address size : ℕ) → Result (Unit {0}) FormatError
region_address_checked offset_size address size =
    required (nat_le (address + size) (undefined_address offset_size))
    (RegionAddressTooLarge address size)

-- objects whose sizes have this sum, in a region of so many bytes, at a site, with what is lent:
-- 14, 13 region, 15 header, 15 region
abbrev pub output_checked : (site : Site) (lent : Lent) (needed size : ℕ)
    → Result (Unit {0}) FormatError
output_checked site lent needed size = do
  _ ← bytes_checked needed lent.object_bytes
  _ ← places_checked size lent.region_bytes
  _ ← header_address_checked site.offset_size site.heap_header_address
  region_address_checked site.offset_size site.region_address size

-- what they let pass: as many bytes as sizes, room, and addresses below the undefined one
pub record Fit (site : Site) (lent : Lent) (needed size : ℕ) : Type 0 where
  pub bytes : needed ≡ lent.object_bytes
  pub room : size ≤ lent.region_bytes
  pub heap : site.heap_header_address < undefined_address site.offset_size
  pub end : site.region_address + size ≤ undefined_address site.offset_size
