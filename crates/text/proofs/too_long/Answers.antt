use mathlib.Core.Path.{refl}
use Rattle.text.specs.Text.{too_long}
use Rattle.text.proofs.too_long.Goals as goal

pub returns : goal.returns
unfolding too_long
returns c = refl
