use Rattle.events.proofs.{Happening.{read-answered, read-waits}}
use Rattle.events.proofs.rules.read_from_rule.Goals as goal

pub returns-then-sn-p : goal.returns-then-sn-p
returns-then-sn-p c = simp c.sends_proceeds.ensures (read-answered _ _ _ c.wide-i.ensures.0 c.if-sn-p.true)

pub returns : goal.returns
returns c = simp (c.sends_proceeds-2.ensures, c.with_line.ensures) (read-waits c.args.p _ _ c.wide-i.ensures.0 _ c.joined.ensures c.if-sn-p.false c.requires.2)
