use Rattle.basics.proofs.Refusals.{none-met}
use mathlib.Core.Path.{sym, subst, ◌∙◌}
use Rattle.form.proofs.InForm.{form-view, sized}
use Rattle.refusals.{proofs.Passing.may_read, specs.Refusals.{trials}, specs.Refusals.Event.read}
use Rattle.events.proofs.{Happening.{happens-refused, happens-taken}, Running.looks-read}
use Rattle.events.specs.{Asked.Looks, Events.rule, declared.Ruled.Ruled}
use Rattle.events.proofs.rules.read_done.Goals as goal

pub returns-in-Err : goal.returns-in-Err
unfolding trials
returns-in-Err c = c.refused_by.ensures ∙ happens-refused _ _ read _ c.in-Err.ensures

pub read_rule-requires : goal.read_rule-requires
read_rule-requires c = let m = may_read c.args.p c.args.room (none-met _ c.in-Ok.ensures) in (sized _ (form-view _ m.form), m.left)

pub looked_at-requires : goal.looked_at-requires
looked_at-requires c = let m = may_read c.args.p c.args.room (none-met _ c.in-Ok.ensures) in subst (λ (q : Ruled). Looks q.tables) (sym c.read_rule.ensures) (looks-read c.args.p (form-view _ m.form))

pub returns-in-Ok : goal.returns-in-Ok
unfolding trials rule
returns-in-Ok c = c.looked_at.ensures ∙ happens-taken _ _ read c.in-Ok.ensures _ c.read_rule.ensures
