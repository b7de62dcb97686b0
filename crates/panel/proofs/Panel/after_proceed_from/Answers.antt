use Rattle.refusals.specs.Refusals.Event.{proceed_from}
use Rattle.panel.proofs.{Calling.after-as}
use Rattle.panel.proofs.Panel.after_proceed_from.Goals as goal

pub returns : goal.returns
returns c = after-as _ (proceed_from c.args.j) _ _ c.proceed_from_done.ensures c.next_of.ensures
