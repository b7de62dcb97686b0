use Rattle.events.specs.Rules.{hold_rule}
use Rattle.events.proofs.take.hold_rule.Goals as goal

pub returns : goal.returns
unfolding hold_rule
returns c = simp (c.sends_proceeds.ensures, c.with_hold.ensures)
