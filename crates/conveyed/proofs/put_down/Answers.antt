use mathlib.Core.Path.{refl}
use native.Mathlib.Omega.{arith}
use Rattle.carried.proofs.Rows.{rows-turn}
use Rattle.conveyed.proofs.put_down.Goals as goal

pub loop-i-preserved : goal.loop-i-preserved
loop-i-preserved c = rows-turn 1 _ (λ k. refl) 10962 _ c.loop-i.invariant (omega arith) c.put_flag.ensures
