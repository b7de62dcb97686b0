use Rattle.form.specs.Form.{at_writer}
use Rattle.refusals.specs.Refusals.{too_high}
use Rattle.refusals.proofs.too_high.Goals as goal

pub returns : goal.returns
unfolding too_high at_writer
returns c = simp (c.choose.ensures, c.both.ensures, c.wide-y.ensures.0, c.wide-i.ensures.0)
