use mathlib.Core.Path.{sym, ap, ◌∙◌}
use Rattle.promise.{proofs.Happenings.code-ok, specs.View.code_of}
use Rattle.steps.proofs.Settling.{code-refused}
use Rattle.parts.proofs.code_of.Goals as goal

pub returns-in-Ok : goal.returns-in-Ok
returns-in-Ok c = sym (ap code_of c.in-Ok.is ∙ code-ok _)

pub returns-in-Err : goal.returns-in-Err
returns-in-Err c = c.number.ensures.number ∙ sym (ap code_of c.in-Err.is ∙ code-refused _)
