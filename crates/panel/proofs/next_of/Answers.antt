use mathlib.Core.Path.{refl}
use Rattle.panel.specs.Calls.{next_of}
use Rattle.panel.proofs.next_of.Goals as goal

pub returns : goal.returns
unfolding next_of
returns c = refl
