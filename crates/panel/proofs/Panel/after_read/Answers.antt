use Rattle.refusals.specs.Refusals.Event.{read}
use Rattle.panel.proofs.{Calling.after-as}
use Rattle.panel.proofs.Panel.after_read.Goals as goal

pub returns : goal.returns
returns c = after-as _ read _ _ c.read_done.ensures c.next_of.ensures
