-- A lent slice of message structs. Its three columns are the three slices of the panel's message area: an event leaves in the
-- columns what the panel's own call (panel's Calls, `called`) leaves in the slices, so there is no second set of rules.
-- Assumes nothing.
use Rattle.std.specs.Prelude.{ℕ, zero, suc}
use mathlib.Core.{List.{List, map}}
use Rattle.std.specs.Prelude.{length, get_or, set, replicate}
use Rattle.messages.specs.{Area.{Area, laid_in}, Sends.messages_of, declared.Sends.Sends}
use Rattle.edges.specs.declared.{Columns.Columns, Message.Message}

unfoldable pub columns : List Message → Area
columns ms = record { receivers = map (λ (m : Message). m.to) ms; kinds = map (λ (m : Message). m.kind) ms; values = map (λ (m : Message). m.value) ms }

-- ---- how the code goes: what is sent is laid into local arrays, and poured from there

-- local arrays before anything is laid into them
unfoldable pub blank : Area
blank = record { receivers = replicate 269 0; kinds = replicate 269 0; values = replicate 269 0 }

unfoldable pub columns_of : Sends → Columns
columns_of s =
    let a : Area = laid_in 0 (messages_of s) blank in
    record { receivers = a.receivers; kinds = a.kinds; values = a.values; count = length (messages_of s) }

abbrev pub message_at : Columns → ℕ → Message
message_at c k = record { to = get_or c.receivers k 0; kind = get_or c.kinds k 0; value = get_or c.values k 0 }

-- the messages below n go to their places, the last first
unfoldable pub poured : Columns → ℕ → List Message → List Message
poured c zero ms = ms
poured c (suc n) ms = poured c n (set ms n (message_at c n))
