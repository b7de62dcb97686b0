use mathlib.Core.Path.{sym, ◌∙◌}
use Rattle.events.proofs.{Looking.{look-as, sn-low}}
use Rattle.events.specs.Look.{look_as}
use Rattle.events.proofs.look.look.Goals as goal

pub look_second-requires : goal.look_second-requires
look_second-requires c = sn-low c.args.p _ c.in-SecondWait.is c.requires.sn_top

pub returns-in-Idle : goal.returns-in-Idle
unfolding look_as
returns-in-Idle c = sym (look-as _ _ c.in-Idle.is)

pub returns-in-Writing : goal.returns-in-Writing
unfolding look_as
returns-in-Writing c = c.look_writing.ensures ∙ sym (look-as _ _ c.in-Writing.is)

pub returns-in-FirstWait : goal.returns-in-FirstWait
unfolding look_as
returns-in-FirstWait c = c.look_first.ensures ∙ sym (look-as _ _ c.in-FirstWait.is)

pub returns-in-SecondWait : goal.returns-in-SecondWait
unfolding look_as
returns-in-SecondWait c = c.look_second.ensures ∙ sym (look-as _ _ c.in-SecondWait.is)
