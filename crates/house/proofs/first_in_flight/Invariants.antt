use mathlib.Core.Path.{◌≡◌}
use Rattle.house.specs.Search.{nowhere, flying, first_below, spot_at, of_pair, of_sender}
use Rattle.house.proofs.first_in_flight.Given as goal

abbrev pub invariant-loop-kind : goal.invariant-loop-kind
invariant-loop-kind l = (l.found ≡ nowhere) × (first_below l.kind (spot_at (flying l.rows l.down) l.from l.to) ≡ nowhere)

abbrev pub invariant-loop-to : goal.invariant-loop-to
invariant-loop-to l = (l.found ≡ nowhere) × (first_below l.to (of_pair (flying l.rows l.down) l.from) ≡ nowhere)

abbrev pub invariant-search : goal.invariant-search
invariant-search l = (l.found ≡ nowhere) × (first_below l.from (of_sender (flying l.rows l.down)) ≡ nowhere)
