use borrow.Author.Rules.{rules}
use Rattle.tables.proofs.Made.{made-by}
use Rattle.tables.specs.Marks.{only_place}
use Rattle.tables.proofs.only_place.Goals as goal

pub returns : goal.returns
unfolding only_place
returns c = made-by _ _ _ _ (search rules) c.from_fn.ensures.items
