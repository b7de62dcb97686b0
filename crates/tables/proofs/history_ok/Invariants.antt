use Prim.Native.Nat.{◌<◌}
use mathlib.Core.Path.{◌≡◌}
use Rattle.basics.specs.Below.{all_below}
use Rattle.tables.specs.Form.{unknown_ok}
use Rattle.tables.proofs.history_ok.Given as goal

abbrev pub invariant-loop-k : goal.invariant-loop-k
invariant-loop-k l = (l.fn.high.0 < l.k) × (l.ok ≡ all_below l.k (unknown_ok l.fn.history l.fn.high.0))
