use mathlib.Core.Path.{sym, ap, subst, ◌∙◌}
use Rattle.form.specs.declared.Tables.{Tables}
use Rattle.tables.specs.Places.{hold_at}
use Rattle.events.proofs.{Happening.{held-taken, none-held}, Running.held-takes}
use Rattle.events.specs.{Asked.Takes, Rules.take}
use Rattle.events.proofs.take.take_held.Goals as goal

pub take-requires : goal.take-requires
take-requires c = subst (λ (q : Tables). Takes q c.args.k) (sym c.with_hold-q.ensures) (held-takes c.args.p _ c.requires c.if-h.true)

pub returns-then-h : goal.returns-then-h
returns-then-h c = c.take.ensures ∙ ap (λ (q : Tables). take q c.args.k (hold_at c.args.p.held c.args.k).value) c.with_hold-q.ensures ∙ held-taken c.args.p _ c.if-h.true

pub returns : goal.returns
returns c = simp c.no_cast.ensures (none-held _ _ c.if-h.false)
