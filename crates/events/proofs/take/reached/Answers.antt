use mathlib.Core.Path.{refl}
use Rattle.events.specs.Rules.{reached}
use Rattle.events.proofs.take.reached.Goals as goal

pub returns : goal.returns
unfolding reached
returns c = refl
