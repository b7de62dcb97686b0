use mathlib.Core.{Path.{sym, ◌∙◌}}
use Rattle.basics.proofs.Refusals.{met-given, met-not, met-none}
use Rattle.basics.proofs.refused.Refusal.when.Goals as goal

pub returns-then-given : goal.returns-then-given
returns-then-given c = sym (met-given _ _ c.if-given.true)

pub returns-else-given : goal.returns-else-given
returns-else-given c = sym (met-not _ _ c.if-given.false ∙ met-none)
