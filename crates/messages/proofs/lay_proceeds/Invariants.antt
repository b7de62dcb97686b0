use Rattle.messages.specs.{Area.Further, Sends.proceeds_to}
use Rattle.messages.proofs.lay_proceeds.Given as goal

abbrev pub invariant-loop : goal.invariant-loop
invariant-loop l = Further (record { count = l.from; area = record { receivers = l.initial.receivers; kinds = l.initial.kinds; values = l.initial.values } }) (proceeds_to l.counter l.peer) (record { count = l.at; area = record { receivers = l.receivers; kinds = l.kinds; values = l.values } })
