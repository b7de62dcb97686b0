use mathlib.Core.Path.{sym}
use Rattle.house.proofs.Searching.{found}
use Rattle.listing.proofs.records.drain_turn.Goals as goal

pub delivery_of-requires : goal.delivery_of-requires
delivery_of-requires c = (found _ c.in-Some.x (sym c.in-Some.ensures)).kind_known
