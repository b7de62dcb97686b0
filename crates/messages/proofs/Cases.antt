-- One event, computed: WRITE1 with 650 to panels 2 and 5, a held WRITE0 with 7 to panel 1, two PROCEEDs to panel 4.
-- Assumes nothing.
use mathlib.Core.{Bool.{true, false}, List.{List, [], ◌∷◌}, Path.{◌≡◌, refl}}
use Rattle.basics.specs.Choice.{ite}
use Rattle.messages.specs.{Area.{Area, laid, laid_in, room_of, laying}, Sends.{Message, cast_below, cast_of, proceeds_to, messages_of}}
use Rattle.messages.specs.declared.Sends.{Sends}

event : Sends
event =
    record {
      own = record { to = false ∷ true ∷ false ∷ false ∷ true ∷ false ∷ false ∷ []; kind = 1; value = 650 };
      held = record { to = true ∷ false ∷ false ∷ false ∷ false ∷ false ∷ false ∷ []; kind = 0; value = 7 };
      peer = 4;
      proceeds = 2;
    }

messages : List Message
messages =
    record { to = 2; kind = 1; value = 650 }
    ∷ record { to = 5; kind = 1; value = 650 }
    ∷ record { to = 1; kind = 0; value = 7 }
    ∷ record { to = 4; kind = 3; value = 0 }
    ∷ record { to = 4; kind = 3; value = 0 }
    ∷ []

own-then-held-then-proceeds : messages_of event ≡ messages
unfolding messages_of cast_of cast_below proceeds_to ite event messages
own-then-held-then-proceeds = refl

-- six receivers, seven kinds, and four values: room for four
uneven : Area
uneven =
    record {
      receivers = 9 ∷ 9 ∷ 9 ∷ 9 ∷ 9 ∷ 9 ∷ [];
      kinds = 8 ∷ 8 ∷ 8 ∷ 8 ∷ 8 ∷ 8 ∷ 8 ∷ [];
      values = 5 ∷ 5 ∷ 5 ∷ 5 ∷ [];
    }

room-is-the-least : room_of uneven ≡ 4
unfolding room_of uneven
room-is-the-least = refl

-- what stands behind the last message stays, and what has no place is not written
laid-in-the-first-places : laying event uneven ≡ record {
  count = 5;
  area = record {
    receivers = 2 ∷ 5 ∷ 1 ∷ 4 ∷ 4 ∷ 9 ∷ [];
    kinds = 1 ∷ 1 ∷ 0 ∷ 3 ∷ 3 ∷ 8 ∷ 8 ∷ [];
    values = 650 ∷ 650 ∷ 7 ∷ 0 ∷ [];
  };
}
unfolding laying laid_in laid messages_of cast_of cast_below proceeds_to ite event uneven
laid-in-the-first-places = refl
