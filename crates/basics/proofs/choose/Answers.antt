use Rattle.basics.proofs.choose.Goals as goal
use Rattle.basics.specs.Choice.{ite}

pub returns-then-c : goal.returns-then-c
unfolding ite
returns-then-c c = simp c.if-c.true

pub returns-else-c : goal.returns-else-c
unfolding ite
returns-else-c c = simp c.if-c.false
