-- A network in numbers: what the promise of its panels and the invariant speak of.
-- Assumes nothing.
use Rattle.std.specs.Prelude.{ℕ}
use Rattle.protocol.specs.{Counts.load, World.World}
use Rattle.promise.specs.View.{view_of}
use Rattle.channels.specs.Channels.{in_flight}
use Rattle.house.specs.{Places.{tables_at, channel_of}, declared.Network.Network}

abbrev pub world_of : Network → World
world_of s = record { panel = λ (i : ℕ). view_of (tables_at s i); flying = λ (i j k : ℕ). in_flight (channel_of s i j) k }

-- a number that falls at each accepted delivery
unfoldable pub load_of : Network → ℕ
load_of s = load (world_of s)
