use Rattle.messages.proofs.Laying.{further-as, further_then, further-none}
use Rattle.messages.proofs.Messages.{proceeds-none, proceeds-next}
use Rattle.messages.proofs.lay_proceeds.Goals as goal

pub loop-init : goal.loop-init
loop-init c = further-as (proceeds-none _) further-none

pub loop-preserved : goal.loop-preserved
loop-preserved c = further-as (proceeds-next _ _) (further_then c.loop.invariant (rw c.byte-kind.ensures.byte at c.put-at.ensures))
