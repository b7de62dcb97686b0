use Rattle.basics.proofs.both.Goals as goal
use Rattle.basics.specs.Choice.{both}

pub returns-then-a : goal.returns-then-a
unfolding both
returns-then-a c = simp c.if-a.true

pub returns-else-a : goal.returns-else-a
unfolding both
returns-else-a c = simp c.if-a.false
