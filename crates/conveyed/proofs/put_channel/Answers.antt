use mathlib.Core.Path.{refl}
use native.Mathlib.Omega.{arith}
use Rattle.carried.proofs.{Lengths.length-hold, Rows.{laid-byte, laid_then}}
use Rattle.conveyed.specs.Networks.{channel_bytes}
use Rattle.conveyed.proofs.put_channel.Goals as goal

pub returns : goal.returns
unfolding channel_bytes
returns c = laid_then 5 c.put_hold.ensures (length-hold _) refl (laid_then 5 c.put_hold-2.ensures (length-hold _) (omega arith) (laid_then 1 (laid-byte c.put_byte.ensures) refl (omega arith) (laid-byte c.put_byte-2.ensures)))
