use mathlib.Core.Path.{◌≡◌}
use Rattle.basics.{specs.Below.all_below}
use Rattle.house.specs.NetForm.{place_ok}
use Rattle.house.proofs.places_ok.Given as goal

abbrev pub invariant-loop-i : goal.invariant-loop-i
invariant-loop-i l = l.ok ≡ all_below l.i (place_ok l.s)
