use Prim.Native.Nat.{ℕ}
use lib.ListN.{length-replicate}
use mathlib.Core.Path.{sym}
use Rattle.bench.proofs.output_area.Goals as goal

pub returns : goal.returns
returns c = sym (length-replicate {0} {A = ℕ} 2799452 0)
