use mathlib.Core.Path.{◌≡◌}
use Rattle.basics.{specs.Below.all_below}
use Rattle.house.specs.NetForm.{channels_ok}
use Rattle.house.proofs.rows_ok.Given as goal

abbrev pub invariant-loop-i : goal.invariant-loop-i
invariant-loop-i l = l.ok ≡ all_below l.i (channels_ok l.s)
