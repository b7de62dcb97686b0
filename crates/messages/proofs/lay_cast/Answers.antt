use Rattle.messages.proofs.Laying.{further-as, further_then, further-none}
use Rattle.messages.proofs.Messages.{below_none, below-marked, below-unmarked}
use Rattle.messages.proofs.lay_cast.Goals as goal
use Rattle.messages.proofs.lay_cast.Goals.{then-marked, else-marked}

pub loop-j-init : goal.loop-j-init
loop-j-init c = further-as (below_none _) further-none

pub loop-j-preserved : goal.loop-j-preserved
loop-j-preserved c =
    elim c.if-marked.branch [
      | then-marked w ↦ rw (w.at-is, w.receivers-is, w.kinds-is, w.values-is) (further-as (below-marked _ _ w.if-marked.true) (further_then c.loop-j.invariant w.put-at.ensures))
      | else-marked w ↦ rw (w.at-is, w.receivers-is, w.kinds-is, w.values-is) (further-as (below-unmarked _ _ w.if-marked.false) c.loop-j.invariant)
    ]
