use mathlib.Core.Path.{sym, subst}
use Rattle.events.proofs.{Running.take-then-held}
use Rattle.events.specs.{Asked.TakesHeld, Rules.{take_rule, released}, declared.Took.Took}
use Rattle.events.proofs.take.take_rule.Goals as goal

pub take_held-b-requires : goal.take_held-b-requires
take_held-b-requires c = subst (λ (o : Took). TakesHeld o.tables c.args.k) (sym c.take-a.ensures) (take-then-held c.args.p c.args.k c.args.v c.requires.takes (c.well_formed.0.1.1.1.1.1.1.0.1.0.1) c.requires.other c.requires.held)

pub returns : goal.returns
unfolding take_rule released
returns c = simp (c.with_line.ensures, c.without.ensures, c.leaving-m.ensures, c.take_held-b.ensures, c.take-a.ensures)
