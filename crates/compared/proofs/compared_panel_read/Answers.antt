use Rattle.compared.proofs.{Reporting.reporting}
use Rattle.compared.proofs.compared_panel_read.Goals as goal

pub returns : goal.returns
returns c = reporting _ _ _ _ _ _ _ _ _ c.panel_of.ensures c.read-o.ensures c.put_outcome.ensures
