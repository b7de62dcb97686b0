use mathlib.Core.Path.{◌∙◌}
use Rattle.events.proofs.{Looking.{own-low, first_ends, first-goes-on}}
use Rattle.events.proofs.look.look_first.Goals as goal

pub look_second-requires : goal.look_second-requires
look_second-requires c = own-low c.args.p _ c.wide-i.ensures.0 c.requires.own_top

pub returns-then-enough : goal.returns-then-enough
returns-then-enough c = c.look_second.ensures ∙ first_ends _ _ c.wide-i.ensures.0 _ _ c.enough.ensures c.has_r.ensures c.if-enough.true

pub returns-else-enough : goal.returns-else-enough
returns-else-enough c = first-goes-on _ _ c.wide-i.ensures.0 _ _ c.enough.ensures c.has_r.ensures c.if-enough.false
