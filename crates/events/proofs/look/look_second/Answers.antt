use mathlib.Core.Path.{sym, ◌∙◌}
use Rattle.basics.proofs.Choices.{ite-true, ite-false}
use Rattle.events.proofs.{Looking.enough-told}
use Rattle.events.specs.Look.{look_second}
use Rattle.events.proofs.look.look_second.Goals as goal

pub returns-then-enough : goal.returns-then-enough
unfolding look_second
returns-then-enough c = simp (c.with_operation.ensures, c.value_of.ensures) (sym (ite-true _ _ (sym (enough-told _ _ _ _ _ c.reaches_w.ensures c.enough.ensures) ∙ c.if-enough.true)))

pub returns-else-enough : goal.returns-else-enough
unfolding look_second
returns-else-enough c = simp c.with_operation-else-enough.ensures (sym (ite-false _ _ (sym (enough-told _ _ _ _ _ c.reaches_w.ensures c.enough.ensures) ∙ c.if-enough.false)))
