-- How many messages of one kind go to one panel.
-- Assumes nothing.
use Rattle.std.specs.Prelude.{ℕ, ◌+◌, List, [], ◌∷◌, eqb}
use Rattle.basics.specs.{Below.one_if, Choice.both}
use Rattle.messages.specs.Sends.{Message}

unfoldable pub tally : List Message → ℕ → ℕ → ℕ
tally [] j k = 0
tally (m ∷ ms) j k = one_if (both (eqb m.to j) (eqb m.kind k)) + tally ms j k
