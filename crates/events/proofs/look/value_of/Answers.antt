use Rattle.events.specs.Rules.{value_of}
use Rattle.events.proofs.look.value_of.Goals as goal

pub returns : goal.returns
unfolding value_of
returns c = simp c.wide-k.ensures.0
