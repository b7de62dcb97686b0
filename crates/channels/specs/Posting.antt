-- "Messages sent go into channels": what one panel sends joins the channels that leave it, message by message in the panel's order.
-- Once one finds no room, none is put.
-- Assumes nothing.
use Rattle.std.specs.Prelude.{ℕ, ◌-◌}
use mathlib.Core.{Bool.{Bool, true, false}, List.{List, [], ◌∷◌}}
use lib.{Dec.leb, ListN.set}
use Rattle.basics.specs.Choice.{ite, both}
use Rattle.messages.specs.{Sends.{Message, messages_of}, declared.Sends.Sends}
use Rattle.channels.specs.{Channels.{channel_at, room, joined, less}, declared.Channel.Channel, declared.Posted.Posted}
use Rattle.channels.specs.declared.Row.{Row}

unfoldable pub with_channel : Row → ℕ → Channel → Row
with_channel r j c = record { to = set r.to j c }

abbrev pub posted : Bool → Row → Posted
posted b r = record { fits = b; row = r }

-- a message for panel j has a channel with room for it
unfoldable pub fits_in : Row → Message → Bool
fits_in r m = both (both (leb 1 m.to) (leb m.to 7)) (room (channel_at r (m.to - 1)) m.kind)

-- one message more
unfoldable pub post : Posted → Message → Posted
post s m =
    ite s.fits
    (ite (fits_in s.row m)
    (posted true (with_channel s.row (m.to - 1) (joined (channel_at s.row (m.to - 1)) m.kind m.value)))
    (posted false s.row))
    s

unfoldable pub posts : Posted → List Message → Posted
posts s [] = s
posts s (m ∷ ms) = posts (post s m) ms

-- all that one event sends
unfoldable pub posted_all : Row → Sends → Posted
posted_all r sends = posts (posted true r) (messages_of sends)

-- the row without one message of kind k to place j
unfoldable pub taken : Row → ℕ → ℕ → Row
taken r j k = with_channel r j (less (channel_at r j) k)
