use mathlib.Core.Path.{refl}
use Rattle.carried.proofs.Rows.{laid_then, laid-whole}
use Rattle.conveyed.proofs.{Lengths.{length-members, length-down}}
use Rattle.conveyed.specs.Networks.{network_bytes}
use Rattle.conveyed.proofs.network_into.Goals as goal

pub returns : goal.returns
unfolding network_bytes
returns c = laid-whole (laid_then 10962 c.put_members.ensures (length-members _) refl (laid_then 7 c.put_down.ensures (length-down _) refl c.put_rows.ensures))
