use Rattle.basics.proofs.Refusals.{none-met}
use mathlib.Core.Path.{sym, subst, ◌∙◌}
use Rattle.refusals.{proofs.Passing.may-write-from, specs.Refusals.{trials}, specs.Refusals.Event.write_from}
use Rattle.events.proofs.{Coming.{takes_all, looks-taken, rule-takes, rule-holds}, Happening.{happens-refused, happens-taken, comes}}
use Rattle.events.proofs.{Running.looks-hold}
use Rattle.events.specs.{Asked.Looks, declared.Ruled.Ruled}
use Rattle.events.proofs.take.write_from_done.Goals as goal

pub returns-in-Err : goal.returns-in-Err
unfolding trials
returns-in-Err c = c.refused_by.ensures ∙ happens-refused _ _ (write_from c.args.j c.args.bit c.args.v) _ c.in-Err.ensures

pub overflow_sub-k : goal.overflow_sub-k
overflow_sub-k c = let a = may-write-from c.args.p c.args.room c.args.j c.args.bit (none-met _ c.in_default.ensures) in (comes c.args.p _ _ _ c.wide-k.ensures.0 a.0).low

pub take_rule-requires : goal.take_rule-requires
take_rule-requires c = let a = may-write-from c.args.p c.args.room c.args.j c.args.bit (none-met _ c.in_default.ensures) in takes_all c.args.p _ _ _ c.args.bit c.wide-k.ensures.0 a.0 a.1 (sym c.right_bit.ensures ∙ c.if-right_bit.true)

pub looked_at-requires : goal.looked_at-requires
looked_at-requires c = let a = may-write-from c.args.p c.args.room c.args.j c.args.bit (none-met _ c.in_default.ensures) in subst (λ (q : Ruled). Looks q.tables) (sym c.take_rule.ensures) (looks-taken c.args.p _ _ _ c.args.bit c.wide-k.ensures.0 a.0 a.1 c.args.v (c.well_formed.0.1.1.1.1.1.1.0.1.0.1) (sym c.right_bit.ensures ∙ c.if-right_bit.true))

pub returns-then-right_bit : goal.returns-then-right_bit
unfolding trials
returns-then-right_bit c = c.looked_at.ensures ∙ happens-taken _ _ (write_from c.args.j c.args.bit c.args.v) c.in_default.ensures _ (c.take_rule.ensures ∙ rule-takes c.args.p _ _ c.args.bit _ c.wide-k.ensures.0 (sym c.right_bit.ensures ∙ c.if-right_bit.true))

pub hold_rule-requires : goal.hold_rule-requires
hold_rule-requires c = let a = may-write-from c.args.p c.args.room c.args.j c.args.bit (none-met _ c.in_default.ensures) in (comes c.args.p _ _ _ c.wide-k.ensures.0 a.0).place

pub looked_at-requires-2 : goal.looked_at-requires-2
looked_at-requires-2 c = let a = may-write-from c.args.p c.args.room c.args.j c.args.bit (none-met _ c.in_default.ensures) in subst (λ (q : Ruled). Looks q.tables) (sym c.hold_rule.ensures) (looks-hold c.args.p (comes c.args.p _ _ _ c.wide-k.ensures.0 a.0).form _ _)

pub returns : goal.returns
unfolding trials
returns c = c.looked_at-2.ensures ∙ happens-taken _ _ (write_from c.args.j c.args.bit c.args.v) c.in_default.ensures _ (c.hold_rule.ensures ∙ rule-holds c.args.p _ _ c.args.bit _ c.wide-k.ensures.0 (sym c.right_bit.ensures ∙ c.if-right_bit.false))
