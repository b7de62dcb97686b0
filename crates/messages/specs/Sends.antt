-- The list of messages that one event sends: "those of the event's own rule, receivers rising; those of the held WRITE;
-- PROCEEDs". A message is "a receiver, a kind and a value (zero for READ and PROCEED)".
-- Assumes nothing.
use Rattle.std.specs.Prelude.{ℕ, zero, suc, ◌+◌}
use mathlib.Core.{Bool.false, List.{List, [], ◌∷◌, ◌++◌}}
use Rattle.std.specs.Prelude.{get_or, replicate}
use Rattle.basics.specs.Choice.{ite}
use Rattle.messages.specs.declared.{Cast.Cast, Sends.Sends}

pub record Message : Type 0 where
  pub to : ℕ
  pub kind : ℕ
  pub value : ℕ

-- the receivers below n that are marked, rising: panel j + 1 for each marked place j
unfoldable pub cast_below : ℕ → Cast → List Message
cast_below zero c = []
cast_below (suc j) c = cast_below j c ++ ite (get_or c.to j false) (record { to = j + 1; kind = c.kind; value = c.value } ∷ []) []

unfoldable pub cast_of : Cast → List Message
cast_of c = cast_below 7 c

-- m PROCEEDs to one peer
unfoldable pub proceeds_to : ℕ → ℕ → List Message
proceeds_to zero j = []
proceeds_to (suc m) j = proceeds_to m j ++ (record { to = j; kind = 3; value = 0 } ∷ [])

unfoldable pub messages_of : Sends → List Message
messages_of s = cast_of s.own ++ (cast_of s.held ++ proceeds_to s.proceeds s.peer)

-- nothing sent
unfoldable pub no_cast : Cast
no_cast = record { to = replicate 7 false; kind = 0; value = 0 }

unfoldable pub no_sends : Sends
no_sends = record { own = no_cast; held = no_cast; peer = 0; proceeds = 0 }
