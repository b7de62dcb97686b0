use Rattle.basics.proofs.Refusals.{none-met}
use Prim.Native.Nat.{ℕ, ◌-◌, ◌<◌}
use mathlib.Core.Path.{sym, ap, subst, ◌∙◌}
use Rattle.form.{proofs.InForm.sized, specs.Setting.own_w}
use Rattle.refusals.{proofs.Passing.{may-read-from, line-room}, specs.Refusals.{trials}, specs.Refusals.Event.read_from}
use Rattle.tables.specs.Places.{w_at, line_at}
use Rattle.events.proofs.{Happening.{happens-refused, happens-taken, comes}, Running.looks-read-from}
use Rattle.events.specs.{Asked.Looks, Events.rule, Rules.read_from_rule, declared.Ruled.Ruled}
use Rattle.events.proofs.rules.read_from_done.Goals as goal

pub returns-in-Err : goal.returns-in-Err
unfolding trials
returns-in-Err c = c.refused_by.ensures ∙ happens-refused _ _ (read_from c.args.j) _ c.in-Err.ensures

pub overflow_sub-wide : goal.overflow_sub-wide
overflow_sub-wide c = let m = comes c.args.p _ _ _ c.wide.ensures.0 (may-read-from c.args.p c.args.room c.args.j (none-met _ c.in-Ok.ensures)).0 in m.low

pub read_from_rule-requires : goal.read_from_rule-requires
read_from_rule-requires c = let a = may-read-from c.args.p c.args.room c.args.j (none-met _ c.in-Ok.ensures) in let m = comes c.args.p _ _ _ c.wide.ensures.0 a.0 in (sized _ m.form, m.place, subst (λ (x : ℕ). w_at c.args.p.w (x - 1) < own_w c.args.p → (line_at c.args.p.lines (x - 1)).len < 100) (sym c.wide.ensures.0) (line-room c.args.p _ a.1))

pub looked_at-requires : goal.looked_at-requires
looked_at-requires c = let m = comes c.args.p _ _ _ c.wide.ensures.0 (may-read-from c.args.p c.args.room c.args.j (none-met _ c.in-Ok.ensures)).0 in subst (λ (q : Ruled). Looks q.tables) (sym c.read_from_rule.ensures) (looks-read-from c.args.p m.form _)

pub returns-in-Ok : goal.returns-in-Ok
unfolding trials rule
returns-in-Ok c = c.looked_at.ensures ∙ happens-taken _ _ (read_from c.args.j) c.in-Ok.ensures _ (c.read_from_rule.ensures ∙ ap (λ (x : ℕ). read_from_rule c.args.p (x - 1)) c.wide.ensures.0)
