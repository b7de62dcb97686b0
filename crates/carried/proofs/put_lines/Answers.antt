use native.Mathlib.Omega.{arith}
use Rattle.carried.proofs.{Lengths.{length-line}, Rows.{rows_start, rows-turn, rows_end}}
use Rattle.carried.specs.Panels.{lines_bytes}
use Rattle.carried.proofs.put_lines.Goals as goal

pub loop-j-init : goal.loop-j-init
loop-j-init c = rows_start _ _ _

pub loop-j-preserved : goal.loop-j-preserved
loop-j-preserved c = rows-turn 101 _ (λ k. length-line _) _ _ c.loop-j.invariant (omega arith) (c.put_line.ensures)

pub returns : goal.returns
unfolding lines_bytes
returns c = rows_end _ 7 (omega arith) c.loop-j.invariant
