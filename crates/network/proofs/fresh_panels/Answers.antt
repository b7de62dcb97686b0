use Rattle.std.proofs.Common.{rules}
use Rattle.basics.proofs.Made.{made-by}
use Rattle.network.proofs.fresh_panels.Goals as goal

pub returns : goal.returns
returns c = made-by _ _ _ _ (search rules) c.from_fn.ensures.items
