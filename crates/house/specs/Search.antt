-- "the first message in flight to a live panel, by sender, then receiver, then kind"
-- Assumes nothing.
use Rattle.std.specs.Prelude.{ℕ, zero, suc, ◌+◌, Option, Some, None}
use Rattle.std.specs.Option.{option_or}
use mathlib.Core.{Bool.{Bool, not}, List.{List, []}}
use Rattle.basics.specs.Choice.{ite, both}
use Rattle.channels.specs.{Channels.has, declared.Row.Row}
use Rattle.house.specs.{Places.{channel_of, down_at}, declared.InFlight.InFlight, declared.Network.Network}

-- nothing is in flight
abbrev pub nowhere : Option InFlight
nowhere = None

-- "Live" means powered
unfoldable pub live : Network → ℕ → Bool
live s j = not (down_at s j)

-- the first that f finds below n
unfoldable pub first_below : ℕ → (ℕ → Option InFlight) → Option InFlight
first_below zero f = nowhere
first_below (suc n) f = option_or (first_below n f) (f n)

unfoldable pub spot_at : Network → ℕ → ℕ → ℕ → Option InFlight
spot_at s i j k = ite (both (live s j) (has (channel_of s i j) k)) (Some (record { sender = i + 1; receiver = j + 1; kind = k })) nowhere

unfoldable pub of_pair : Network → ℕ → ℕ → Option InFlight
of_pair s i j = first_below 4 (spot_at s i j)

unfoldable pub of_sender : Network → ℕ → Option InFlight
of_sender s i = first_below 7 (of_pair s i)

unfoldable pub first_in : Network → Option InFlight
first_in s = first_below 7 (of_sender s)

-- what the search looks at: the channels, and who is down
abbrev pub flying : List Row → List Bool → Network
flying rows down = record { panels = []; rows = rows; down = down }
