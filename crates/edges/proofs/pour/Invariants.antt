use Rattle.std.proofs.Common.{◌≡◌}
use Rattle.edges.specs.Columns.{poured}
use Rattle.edges.proofs.pour.Given as goal

abbrev pub invariant-loop-k : goal.invariant-loop-k
invariant-loop-k l = poured l.c l.k l.area ≡ poured l.c l.n l.initial.area
