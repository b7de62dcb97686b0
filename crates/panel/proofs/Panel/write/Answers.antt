use Rattle.refusals.specs.Refusals.Event.{write}
use Rattle.panel.proofs.{Calling.called-as}
use Rattle.panel.proofs.Panel.write.Goals as goal

pub returns : goal.returns
returns c = called-as _ (write c.args.v) _ _ _ _ c.room_of-room.ensures c.write_done.ensures c.tell.ensures
