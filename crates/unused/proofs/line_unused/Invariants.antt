use mathlib.Core.Path.{◌≡◌}
use Rattle.basics.{specs.Below.all_below}
use Rattle.unused.specs.Unused.{entry_zero}
use Rattle.unused.proofs.line_unused.Given as goal

abbrev pub invariant-loop-x : goal.invariant-loop-x
invariant-loop-x v = v.zeros ≡ all_below v.x-index (entry_zero v.l)
