use mathlib.Core.Path.{◌∙◌}
use Rattle.parts.proofs.Back.{step_back}
use Rattle.network.proofs.step_in.Goals as goal

pub returns : goal.returns
returns c = c.step_in_place-answer.ensures ∙ step_back _ c.requires _
