use mathlib.Core.Path.{◌≡◌}
use Rattle.basics.{specs.Below.all_below}
use Rattle.unused.specs.Unused.{value_zero}
use Rattle.unused.proofs.history_unused.Given as goal

abbrev pub invariant-loop-v : goal.invariant-loop-v
invariant-loop-v l = l.zeros ≡ all_below l.v-index (value_zero l.history)
