use Rattle.basics.specs.Below.{all_below}
use mathlib.Core.Path.{◌≡◌}
use Rattle.channels.specs.Channels.{row_place_ok}
use Rattle.channels.proofs.row_ok.Given as goal

abbrev pub invariant-loop-j : goal.invariant-loop-j
invariant-loop-j l = l.ok ≡ all_below l.j (row_place_ok l.fn.r l.fn.n l.fn.i)
