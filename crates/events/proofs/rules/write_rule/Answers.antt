use Rattle.events.specs.Rules.{write_rule}
use Rattle.events.proofs.rules.write_rule.Goals as goal

pub returns : goal.returns
unfolding write_rule
returns c = simp (c.sends_own.ensures, c.with_operation.ensures, c.learned-q.ensures, c.spread-c.ensures)
