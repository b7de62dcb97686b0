use Rattle.events.specs.Rules.{proceed_rule}
use Rattle.events.proofs.rules.proceed_rule.Goals as goal

pub returns : goal.returns
unfolding proceed_rule
returns c = simp c.sends_proceeds.ensures
