use borrow.Author.Rules.{rules}
use native.Mathlib.Omega.{arith}
use Rattle.std.proofs.iter.Serving.{serving}
use Rattle.tables.proofs.Made.{made-by}
use Rattle.tables.specs.Marks.{marks, among}
use Rattle.tables.proofs.marked.Goals as goal

pub from_fn-requires : goal.from_fn-requires
from_fn-requires g c = (omega arith, record { at = λ xs t q x u y f s. grind serving })

pub returns : goal.returns
unfolding marks among
returns g c = λ f h. made-by _ _ _ _ (λ i b k l e. (search rules, search (rules, h))) c.from_fn.ensures.items
