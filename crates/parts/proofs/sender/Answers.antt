use mathlib.Core.Path.{◌∙◌}
use Rattle.parts.proofs.Senders.{sender-acts}
use Rattle.parts.proofs.sender.Goals as goal

pub returns-in-Write : goal.returns-in-Write
returns-in-Write c = (c.actor.ensures.0 ∙ sender-acts _ _ c.in-Write.is, c.actor.ensures.1)
