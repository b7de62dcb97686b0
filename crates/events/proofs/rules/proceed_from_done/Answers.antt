use Rattle.basics.proofs.Refusals.{none-met}
use Prim.Native.Nat.{ℕ, ◌-◌}
use mathlib.Core.Path.{sym, ap, subst, ◌∙◌}
use Rattle.refusals.{proofs.Passing.may-proceed-from, specs.Refusals.{trials}, specs.Refusals.Event.proceed_from}
use Rattle.events.proofs.{Happening.{happens-refused, happens-taken, comes}, Running.looks-proceed}
use Rattle.events.specs.{Asked.Looks, Events.rule, Rules.proceed_rule, declared.Ruled.Ruled}
use Rattle.events.proofs.rules.proceed_from_done.Goals as goal

pub returns-in-Err : goal.returns-in-Err
unfolding trials
returns-in-Err c = c.refused_by.ensures ∙ happens-refused _ _ (proceed_from c.args.j) _ c.in-Err.ensures

pub overflow_sub-wide : goal.overflow_sub-wide
overflow_sub-wide c = let m = comes c.args.p _ _ _ c.wide.ensures.0 (may-proceed-from c.args.p c.args.room c.args.j (none-met _ c.in-Ok.ensures)).0 in m.low

pub proceed_rule-requires : goal.proceed_rule-requires
proceed_rule-requires c = let m = comes c.args.p _ _ _ c.wide.ensures.0 (may-proceed-from c.args.p c.args.room c.args.j (none-met _ c.in-Ok.ensures)).0 in (m.place, m.r_small)

pub looked_at-requires : goal.looked_at-requires
looked_at-requires c = let m = comes c.args.p _ _ _ c.wide.ensures.0 (may-proceed-from c.args.p c.args.room c.args.j (none-met _ c.in-Ok.ensures)).0 in subst (λ (q : Ruled). Looks q.tables) (sym c.proceed_rule.ensures) (looks-proceed c.args.p m.form _)

pub returns-in-Ok : goal.returns-in-Ok
unfolding trials rule
returns-in-Ok c = c.looked_at.ensures ∙ happens-taken _ _ (proceed_from c.args.j) c.in-Ok.ensures _ (c.proceed_rule.ensures ∙ ap (λ (x : ℕ). proceed_rule c.args.p (x - 1)) c.wide.ensures.0)
