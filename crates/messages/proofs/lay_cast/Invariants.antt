use Rattle.messages.specs.{Area.Further, Sends.cast_below}
use Rattle.messages.proofs.lay_cast.Given as goal

abbrev pub invariant-loop-j : goal.invariant-loop-j
invariant-loop-j l = Further (record { count = l.from; area = record { receivers = l.initial.receivers; kinds = l.initial.kinds; values = l.initial.values } }) (cast_below l.j l.fn.c) (record { count = l.at; area = record { receivers = l.receivers; kinds = l.kinds; values = l.values } })
