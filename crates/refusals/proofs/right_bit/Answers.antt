use Rattle.refusals.specs.Refusals.{right_bit}
use Rattle.refusals.proofs.right_bit.Goals as goal

pub returns : goal.returns
unfolding right_bit
returns c = simp (c.one_if.ensures.0, c.wide-x.ensures.0, c.number_at.ensures)
