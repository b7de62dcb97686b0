use native.Mathlib.Omega.{arith}
use Rattle.carried.proofs.{Lengths.{length-hold}, Rows.{rows_start, rows-turn, rows_end}}
use Rattle.carried.specs.Panels.{held_bytes}
use Rattle.carried.proofs.put_held.Goals as goal

pub loop-j-init : goal.loop-j-init
loop-j-init c = rows_start _ _ _

pub loop-j-preserved : goal.loop-j-preserved
loop-j-preserved c = rows-turn 5 _ (λ k. length-hold _) _ _ c.loop-j.invariant (omega arith) (c.put_hold.ensures)

pub returns : goal.returns
unfolding held_bytes
returns c = rows_end _ 7 (omega arith) c.loop-j.invariant
