use Rattle.refusals.specs.Refusals.Event.{write}
use Rattle.panel.proofs.{Calling.after-as}
use Rattle.panel.proofs.Panel.after_write.Goals as goal

pub returns : goal.returns
returns c = after-as _ (write c.args.v) _ _ c.write_done.ensures c.next_of.ensures
