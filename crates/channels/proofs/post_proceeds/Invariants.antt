use mathlib.Core.Path.{◌≡◌}
use Rattle.messages.specs.Sends.{proceeds_to}
use Rattle.channels.specs.Posting.{posts}
use Rattle.channels.proofs.post_proceeds.Given as goal

abbrev pub invariant-loop : goal.invariant-loop
invariant-loop l = l.p ≡ posts l.fn.s (proceeds_to l.counter l.fn.peer)
