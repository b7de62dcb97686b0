use mathlib.Core.{Path.refl}
use native.Mathlib.Omega.{arith}
use Rattle.carried.proofs.{Rows.{laid-byte, laid_then, rows_start, rows-turn, rows_end}}
use Rattle.carried.specs.Panels.{line_bytes}
use Rattle.carried.proofs.put_line.Goals as goal

pub loop-k-init : goal.loop-k-init
loop-k-init c = rows_start _ _ _

pub loop-k-preserved : goal.loop-k-preserved
loop-k-preserved c = rows-turn 1 _ (λ k. refl) _ _ c.loop-k.invariant (omega arith) (laid-byte c.put_byte-in-loop-k.ensures)

pub returns : goal.returns
unfolding line_bytes
returns c = laid_then 1 (laid-byte c.put_byte.ensures) refl refl (rows_end _ 100 (omega arith) c.loop-k.invariant)
