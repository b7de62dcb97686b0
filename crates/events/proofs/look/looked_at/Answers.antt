use Rattle.events.specs.Events.{looked_at}
use Rattle.events.proofs.look.looked_at.Goals as goal

pub returns : goal.returns
unfolding looked_at
returns c = simp c.look-l.ensures
