use Rattle.events.specs.Events.{refused_by}
use Rattle.events.proofs.rules.refused_by.Goals as goal

pub returns : goal.returns
unfolding refused_by
returns c = simp c.no_sends.ensures
