use mathlib.Core.Path.{refl}
use Rattle.compared.proofs.{Reporting.panel-then}
use Rattle.compared.specs.Reported.{outcome_bytes}
use Rattle.compared.proofs.put_outcome.Goals as goal

pub returns : goal.returns
unfolding outcome_bytes
returns c = (refl, panel-then _ _ _ _ _ c.panel_into.ensures c.put_answer.ensures)
