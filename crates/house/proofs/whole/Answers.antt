use mathlib.Core.Path.{refl}
use Rattle.house.proofs.Wholes.{whole_lem}
use Rattle.house.proofs.whole.Goals as goal

pub returns : goal.returns
returns c = (refl, whole_lem _ _ c.well_formed.0)
