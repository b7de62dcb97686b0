use Rattle.events.proofs.{Looking.{writing-ends, writing-goes-on}}
use Rattle.events.proofs.look.look_writing.Goals as goal

pub returns-then-enough : goal.returns-then-enough
returns-then-enough c = simp c.with_operation.ensures (writing-ends _ _ c.wide-i.ensures.0 _ _ c.enough.ensures c.has_w.ensures c.if-enough.true)

pub returns-else-enough : goal.returns-else-enough
returns-else-enough c = writing-goes-on _ _ c.wide-i.ensures.0 _ _ c.enough.ensures c.has_w.ensures c.if-enough.false
