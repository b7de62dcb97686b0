use Rattle.refusals.specs.Refusals.Event.{write_from}
use Rattle.panel.proofs.{Calling.called-as}
use Rattle.panel.proofs.Panel.write_from.Goals as goal

pub returns : goal.returns
returns c = called-as _ (write_from c.args.j c.args.bit c.args.v) _ _ _ _ c.room_of-room.ensures c.write_from_done.ensures c.tell.ensures
