-- What is counted and what is left to count are the whole count.
use Rattle.round_trip.proofs.Backs.{Counting}
use Rattle.round_trip.proofs.objects.read_back.Given as goal

abbrev pub invariant-loop-i : goal.invariant-loop-i
invariant-loop-i l = Counting l.header l.file l.offset_size l.sizes l.offsets l.objects l.back l.from l.i
