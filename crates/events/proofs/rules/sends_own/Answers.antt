use Rattle.events.proofs.rules.sends_own.Goals as goal

pub returns : goal.returns
returns c = simp c.no_cast.ensures
