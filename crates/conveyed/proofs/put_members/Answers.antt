use native.Mathlib.Omega.{arith}
use Rattle.carried.proofs.{Lengths.{length-panel}, Rows.{rows-turn}}
use Rattle.conveyed.proofs.put_members.Goals as goal

pub loop-i-preserved : goal.loop-i-preserved
loop-i-preserved c = rows-turn 1566 _ (λ k. length-panel _) 0 _ c.loop-i.invariant (omega arith) c.put_member.ensures
