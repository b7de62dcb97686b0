use mathlib.Core.Path.{◌≡◌}
use Rattle.basics.{specs.Below.all_below}
use Rattle.unused.specs.Unused.{place_unused}
use Rattle.unused.proofs.places_unused.Given as goal

abbrev pub invariant-loop-j : goal.invariant-loop-j
invariant-loop-j l = l.ok ≡ all_below l.j (place_unused l.p)
