use Rattle.events.specs.Rules.{read_rule}
use Rattle.events.proofs.rules.read_rule.Goals as goal

pub returns : goal.returns
unfolding read_rule
returns c = simp (c.sends_own.ensures, c.asked.ensures, c.others.ensures, c.byte.ensures.byte)
