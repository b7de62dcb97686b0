use native.Mathlib.Omega.{arith}
use Rattle.edges.specs.Columns.{blank}
use Rattle.edges.proofs.{Pouring.columns-laid}
use Rattle.edges.proofs.columns_of.Goals as goal

pub returns : goal.returns
unfolding blank
returns c = columns-laid _ _ c.lay-count.ensures (omega arith)
