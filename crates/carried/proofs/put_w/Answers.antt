use mathlib.Core.{Path.refl}
use native.Mathlib.Omega.{arith}
use Rattle.carried.proofs.{Rows.{laid-byte, rows_start, rows-turn, rows_end}}
use Rattle.carried.specs.Panels.{w_bytes}
use Rattle.carried.proofs.put_w.Goals as goal

pub loop-j-init : goal.loop-j-init
loop-j-init c = rows_start _ _ _

pub loop-j-preserved : goal.loop-j-preserved
loop-j-preserved c = rows-turn 1 _ (λ k. refl) _ _ c.loop-j.invariant (omega arith) (laid-byte c.put_byte.ensures)

pub returns : goal.returns
unfolding w_bytes
returns c = rows_end _ 7 (omega arith) c.loop-j.invariant
