use Rattle.listing.proofs.Laying.{laid_more}
use Rattle.listing.proofs.put_all.Goals as goal

pub loop-i-preserved : goal.loop-i-preserved
loop-i-preserved c = laid_more _ _ _ _ c.loop-i-test.true c.loop-i.invariant c.put_byte.ensures
