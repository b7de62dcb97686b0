use Rattle.events.proofs.rules.sends_proceeds.Goals as goal

pub returns : goal.returns
returns c = simp (c.no_cast.ensures, c.no_cast-2.ensures)
