use mathlib.Core.Path.{refl}
use Rattle.carried.proofs.{Rows.{laid-byte, laid_then}}
use Rattle.carried.specs.Panels.{head_bytes}
use Rattle.carried.proofs.put_head.Goals as goal

pub returns : goal.returns
unfolding head_bytes
returns c = laid_then 1 (laid-byte c.put_byte.ensures) refl refl (laid_then 1 (laid-byte c.put_byte-2.ensures) refl refl (laid_then 1 (laid-byte c.put_byte-3.ensures) refl refl (laid_then 1 (laid-byte c.put_byte-4.ensures) refl refl (record { is = c.put_word.ensures }))))
