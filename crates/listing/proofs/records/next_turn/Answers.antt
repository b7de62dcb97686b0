use mathlib.Core.Path.{sym}
use native.Mathlib.Omega.{arith}
use Rattle.schedule.proofs.Laws.{accepted-within}
use Rattle.listing.proofs.records.next_turn.Goals as goal

pub overflow_add-at : goal.overflow_add-at
overflow_add-at c = record { fits = omega (arith, accepted-within c.args.schedule.now c.in-Record.at c.in-Ok.t (sym c.in-Ok.ensures), c.well_formed.0.0) }
