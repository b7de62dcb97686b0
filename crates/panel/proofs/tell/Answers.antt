use Rattle.panel.proofs.{Calling.told-as}
use Rattle.panel.proofs.tell.Goals as goal

pub returns : goal.returns
returns c = told-as _ _ _ c.lay-count.ensures
