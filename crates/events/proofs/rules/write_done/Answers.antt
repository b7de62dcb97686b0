use Rattle.basics.proofs.Refusals.{none-met}
use mathlib.Core.Path.{sym, subst, ◌∙◌}
use Rattle.form.proofs.InForm.{form-view, sized}
use Rattle.refusals.{proofs.Passing.may_write, specs.Refusals.{trials}, specs.Refusals.Event.write}
use Rattle.events.proofs.{Happening.{happens-refused, happens-taken}, Running.looks-write}
use Rattle.events.specs.{Asked.Looks, Events.rule, declared.Ruled.Ruled}
use Rattle.events.proofs.rules.write_done.Goals as goal

pub returns-in-Err : goal.returns-in-Err
unfolding trials
returns-in-Err c = c.refused_by.ensures ∙ happens-refused _ _ (write c.args.v) _ c.in-Err.ensures

pub write_rule-requires : goal.write_rule-requires
write_rule-requires c = let m = may_write c.args.p c.args.room (none-met _ c.in-Ok.ensures) in (sized _ (form-view _ m.form), m.left)

pub looked_at-requires : goal.looked_at-requires
looked_at-requires c = let m = may_write c.args.p c.args.room (none-met _ c.in-Ok.ensures) in subst (λ (q : Ruled). Looks q.tables) (sym c.write_rule.ensures) (looks-write c.args.p (form-view _ m.form) c.args.v m.left)

pub returns-in-Ok : goal.returns-in-Ok
unfolding trials rule
returns-in-Ok c = c.looked_at.ensures ∙ happens-taken _ _ (write c.args.v) c.in-Ok.ensures _ c.write_rule.ensures
