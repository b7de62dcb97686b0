use native.Mathlib.Omega.{arith}
use Rattle.carried.proofs.Rows.{rows-turn}
use Rattle.conveyed.proofs.{Lengths.length-row}
use Rattle.conveyed.proofs.put_rows.Goals as goal

pub loop-i-preserved : goal.loop-i-preserved
loop-i-preserved c = rows-turn 84 _ (λ k. length-row _) 10969 _ c.loop-i.invariant (omega arith) c.put_row.ensures
