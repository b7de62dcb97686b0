use Rattle.refusals.specs.Refusals.Event.{write_from}
use Rattle.panel.proofs.{Calling.after-as}
use Rattle.panel.proofs.Panel.after_write_from.Goals as goal

pub returns : goal.returns
returns c = after-as _ (write_from c.args.j c.args.bit c.args.v) _ _ c.write_from_done.ensures c.next_of.ensures
