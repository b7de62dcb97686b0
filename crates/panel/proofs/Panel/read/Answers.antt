use Rattle.refusals.specs.Refusals.Event.{read}
use Rattle.panel.proofs.{Calling.called-as}
use Rattle.panel.proofs.Panel.read.Goals as goal

pub returns : goal.returns
returns c = called-as _ read _ _ _ _ c.room_of-room.ensures c.read_done.ensures c.tell.ensures
