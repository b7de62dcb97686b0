use Rattle.refusals.specs.Refusals.Event.{read_from}
use Rattle.panel.proofs.{Calling.after-as}
use Rattle.panel.proofs.Panel.after_read_from.Goals as goal

pub returns : goal.returns
returns c = after-as _ (read_from c.args.j) _ _ c.read_from_done.ensures c.next_of.ensures
