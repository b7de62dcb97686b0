-- The description's own figure for the bound: "Ten deliveries in all: 1·3·2 + 2·1·2".
-- Assumes nothing.
use mathlib.Core.Path.{◌≡◌, refl}
use Rattle.runs.specs.Claims.{most_deliveries}

ten-in-all : most_deliveries 3 1 1 ≡ 10
unfolding most_deliveries
ten-in-all = refl

-- a write alone among seven panels, and a read alone
write-among-seven : most_deliveries 7 1 0 ≡ 42
unfolding most_deliveries
write-among-seven = refl

read-among-seven : most_deliveries 7 0 1 ≡ 12
unfolding most_deliveries
read-among-seven = refl
