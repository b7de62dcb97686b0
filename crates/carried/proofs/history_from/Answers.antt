use borrow.Author.Rules.{rules}
use Rattle.tables.proofs.Made.{made-by}
use Rattle.carried.proofs.history_from.Goals as goal

pub returns : goal.returns
returns c = made-by _ _ _ _ (search rules) c.from_fn.ensures.items
