-- What is said of every run from fresh.
-- Assumes nothing.
use Rattle.std.specs.Prelude.{ℕ, ◌+◌, ◌-◌, ◌*◌, ◌<◌}
use mathlib.Core.{Bool.{true, false}, List.{List, [], ◌∷◌}, Logic.◌≢◌, Path.◌≡◌}
use Rattle.channels.specs.Channels.{has}
use Rattle.house.specs.{Places.{channel_of, n_of}, Search.live, declared.Network.Network}
use Rattle.runs.specs.Runs.{Entry}

-- no message is in flight to a powered panel
pub record Still (s : Network) : Type 0 where
  pub still : (i j k : ℕ) → i < n_of s → j < n_of s → live s j ≡ true → k < 4 → has (channel_of s i j) k ≡ false

-- "From a fresh network 2 and 11 to 14 never occur"
pub record Ordinary (refusal : ℕ) : Type 0 where
  pub no_2 : refusal ≢ 2
  pub no_11 : refusal ≢ 11
  pub no_12 : refusal ≢ 12
  pub no_13 : refusal ≢ 13
  pub no_14 : refusal ≢ 14

-- of every answer of a run
pub data AllOrdinary : List Entry → Type 0 where
  none : AllOrdinary []
  more : {x : Entry} {xs : List Entry} → Ordinary x.refusal → AllOrdinary xs → AllOrdinary (x ∷ xs)

-- "With n panels, a writes and r reads accepted in all, at most a·n·(n−1) + 2·r·(n−1) deliveries are ever accepted"
unfoldable pub most_deliveries : ℕ → ℕ → ℕ → ℕ
most_deliveries n a r = a * (n * (n - 1)) + 2 * (r * (n - 1))
