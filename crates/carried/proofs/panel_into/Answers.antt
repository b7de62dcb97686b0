use mathlib.Core.Path.{refl}
use Rattle.carried.proofs.Lengths.{length-head, length-w, length-r, length-held, length-lines, length-operation}
use Rattle.carried.proofs.{Rows.{laid_then, laid-whole}}
use Rattle.carried.specs.Panels.{panel_bytes}
use Rattle.carried.proofs.panel_into.Goals as goal

pub returns : goal.returns
unfolding panel_bytes
returns c = laid-whole (laid_then 8 c.put_head.ensures (length-head _ _ _ _ _) refl (laid_then 7 c.put_w.ensures (length-w _) refl (laid_then 7 c.put_r.ensures (length-r _) refl (laid_then 35 c.put_held.ensures (length-held _) refl (laid_then 707 c.put_lines.ensures (length-lines _) refl (laid_then 2 c.put_operation.ensures (length-operation _) refl c.put_values.ensures))))))
