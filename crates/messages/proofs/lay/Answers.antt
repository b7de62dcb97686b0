use Rattle.messages.proofs.{Laying.{further_then, laying-all}}
use Rattle.messages.specs.Sends.{messages_of}
use Rattle.messages.proofs.lay.Goals as goal

pub returns : goal.returns
unfolding messages_of
returns c = laying-all _ (further_then c.lay_cast-a.ensures (further_then c.lay_cast-b.ensures c.lay_proceeds.ensures))
