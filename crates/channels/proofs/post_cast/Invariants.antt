use mathlib.Core.Path.{◌≡◌}
use Rattle.messages.specs.Sends.{cast_below}
use Rattle.channels.specs.Posting.{posts}
use Rattle.channels.proofs.post_cast.Given as goal

abbrev pub invariant-loop-j : goal.invariant-loop-j
invariant-loop-j l = l.p ≡ posts l.fn.s (cast_below l.j l.fn.c)
