use mathlib.Core.Path.{refl}
use Rattle.text.specs.Text.{first_line}
use Rattle.text.proofs.first_line.Goals as goal

pub returns : goal.returns
unfolding first_line
returns c = refl
