use Rattle.refusals.specs.Refusals.Event.{read_from}
use Rattle.panel.proofs.{Calling.called-as}
use Rattle.panel.proofs.Panel.read_from.Goals as goal

pub returns : goal.returns
returns c = called-as _ (read_from c.args.j) _ _ _ _ c.room_of-room.ensures c.read_from_done.ensures c.tell.ensures
