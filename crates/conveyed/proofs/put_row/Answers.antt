use native.Mathlib.Omega.{arith}
use Rattle.carried.proofs.Rows.{rows-turn}
use Rattle.conveyed.proofs.{Lengths.length-channel}
use Rattle.conveyed.proofs.put_row.Goals as goal

pub loop-j-preserved : goal.loop-j-preserved
loop-j-preserved c = rows-turn 12 _ (λ k. length-channel _) _ _ c.loop-j.invariant (omega arith) c.put_channel.ensures
