-- What is left of `write_and_fetch`: nothing happens to the file, so that `fetch_after` gives the object's bytes.
use Rattle.std.proofs.Common.{refl, rules, arith}
use Rattle.std.proofs.lemmas.Grind.{common_steps}
use Rattle.round_trip.proofs.Untouched.{fetched-answer}
use Rattle.round_trip.proofs.write_and_fetch.Goals as goal

pub returns : goal.returns
returns c =
    let a = c.args in
    let n = c.fetch_after.new in
    let d = c.fetch_after.ensures in
    let q = c.requires in
    let fetched =
    fetched-answer a.sizes.now a.objects.now a.offsets.now a.blocks.now a.file.now a.site n.file a.early a.i
    a.found.now n.found q.among_early q.early_in_list q.not_empty q.room
    _ refl d.passed d.kept d.answer in
    record {
      answer = fetched.0;
      comes_back = fetched.1;
      region_in_file = d.passed;
      lists = search rules;
      untouched = grind (arith, common_steps, fetched.0, d.untouched, d.not_found);
    }
