-- What is left of `serialize_at`: what is written into the part of the file is written into the file.
use Rattle.std.proofs.Common.{refl, rules}
use Rattle.region_write.specs.Region.{region}
use Rattle.round_trip.proofs.Parts.{written_at}
use Rattle.round_trip.proofs.region.serialize_at.Goals as goal

pub returns-clause-region_in_file : goal.returns-clause-region_in_file
returns-clause-region_in_file c =
    written_at c.args.file.now c.serialize.new.region c.args.site.region_address c.min-start.result _
    c.min-start.ensures refl _ (search rules) c.serialize.result
    (λ plan. region c.args.site plan.root_rows c.args.sizes.now c.args.objects.now) c.serialize.ensures.written
