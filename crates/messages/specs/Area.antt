-- The lent message area, three slices: the messages stand in the first places, and "places after the last message are
-- unchanged".
-- Assumes nothing.
use Rattle.std.specs.Prelude.{ℕ, suc, min, ◌+◌}
use mathlib.Core.{List.{List, [], ◌∷◌, map}, Path.◌≡◌}
use Rattle.std.specs.Prelude.{length, set}
use Rattle.messages.specs.{Sends.{Message, messages_of}, declared.Sends.Sends}

pub record Area : Type 0 where
  pub receivers : List ℕ
  pub kinds : List ℕ
  pub values : List ℕ

-- xs stored from place at on
unfoldable pub laid : ℕ → List ℕ → List ℕ → List ℕ
laid at [] area = area
laid at (x ∷ xs) area = laid (suc at) xs (set area at x)

abbrev pub receivers_of : List Message → List ℕ
receivers_of ms = map (λ (m : Message). m.to) ms

abbrev pub kinds_of : List Message → List ℕ
kinds_of ms = map (λ (m : Message). m.kind) ms

abbrev pub values_of : List Message → List ℕ
values_of ms = map (λ (m : Message). m.value) ms

-- the messages in the area, from place at on
unfoldable pub laid_in : ℕ → List Message → Area → Area
laid_in at ms a =
    record {
      receivers = laid at (receivers_of ms) a.receivers;
      kinds = laid at (kinds_of ms) a.kinds;
      values = laid at (values_of ms) a.values;
    }

-- how many messages the area holds: the three slices are one area
unfoldable pub room_of : Area → ℕ
room_of a = min (length a.receivers) (min (length a.kinds) (length a.values))

-- what laying leaves: how many messages there are, and the area
pub record Laid : Type 0 where
  pub count : ℕ
  pub area : Area

-- all that one event sends, in the area's first places
unfoldable pub laying : Sends → Area → Laid
laying s a = record { count = length (messages_of s); area = laid_in 0 (messages_of s) a }

-- from l to m the messages ms were laid, behind those that stood there: the steps of the code that lays
pub record Further (l : Laid) (ms : List Message) (m : Laid) : Type 0 where
  pub count_is : m.count ≡ l.count + length ms
  pub area_is : m.area ≡ laid_in l.count ms l.area
