use Rattle.refusals.specs.Refusals.{stray}
use Rattle.refusals.proofs.stray.Goals as goal

pub returns : goal.returns
unfolding stray
returns c = simp (c.choose.ensures, c.choose-held.ensures, c.right_bit.ensures, c.too_high-next.ensures, c.too_high.ensures, c.wide-x.ensures.0)
