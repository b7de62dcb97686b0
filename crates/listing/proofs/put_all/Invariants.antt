use lib.{ListN.{take}, Seq.sets}
use mathlib.Core.Path.{◌≡◌}
use Rattle.listing.proofs.put_all.Given as goal

abbrev pub invariant-loop-i : goal.invariant-loop-i
invariant-loop-i l = l.out ≡ sets l.initial.out l.at (take l.i l.bytes)
