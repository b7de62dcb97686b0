use lib.{ListN.take, Seq.sets}
use mathlib.Core.Path.{◌≡◌}
use Rattle.codec.proofs.put_word.Given as goal

abbrev pub invariant-loop-k : goal.invariant-loop-k
invariant-loop-k l = l.area ≡ sets l.initial.area l.at-2 (take l.k l.b-items)
