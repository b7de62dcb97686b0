use mathlib.Core.Path.{◌∙◌}
use Rattle.house.proofs.Searching.{by-flying}
use Rattle.network.proofs.first_in_flight.Goals as goal

pub returns : goal.returns
returns c = c.first_in_flight.ensures ∙ by-flying _
