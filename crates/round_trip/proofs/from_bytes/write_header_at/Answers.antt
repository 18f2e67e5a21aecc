-- What is left of `write_header_at`: what is written into the part of the file is written into the file.
use Rattle.std.proofs.Common.{refl, rules}
use Rattle.round_trip.proofs.FromBytes.{header_put}
use Rattle.round_trip.proofs.from_bytes.write_header_at.Goals as goal

pub returns-clause-written : goal.returns-clause-written
returns-clause-written c =
    header_put c.args.file.now c.write.new.bytes c.args.site.heap_header_address _ c.requires refl _ (search rules)
    c.write.result _ c.write.ensures.written
