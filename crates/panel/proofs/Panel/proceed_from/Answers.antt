use Rattle.refusals.specs.Refusals.Event.{proceed_from}
use Rattle.panel.proofs.{Calling.called-as}
use Rattle.panel.proofs.Panel.proceed_from.Goals as goal

pub returns : goal.returns
returns c = called-as _ (proceed_from c.args.j) _ _ _ _ c.room_of-room.ensures c.proceed_from_done.ensures c.tell.ensures
