use lib.ListN.{length}
use Rattle.listing.proofs.{Giving.left}
use Rattle.listing.proofs.{LineByLine.{Lays}}
use Rattle.listing.specs.Turning.{bench_at}
use Rattle.listing.proofs.put_lines.Given as goal

abbrev pub invariant-loop-b : goal.invariant-loop-b
invariant-loop-b l = Lays l.schedule l.initial.out l.out l.at l.step (bench_at l.s l.b)

abbrev pub decreases-loop-b : goal.decreases-loop-b
decreases-loop-b l = length (left l.schedule (bench_at l.s l.b))
