-- What a write into lent bytes comes to: the bytes xs stand at place i and behind, as far as there are places.
-- Assumes nothing.
use Rattle.std.specs.Prelude.{ℕ}
use mathlib.Core.{List.List, Path.◌≡◌}
use lib.Seq.{sets}

pub record Laid (l : List ℕ) (i : ℕ) (xs m : List ℕ) : Type 0 where
  pub is : m ≡ sets l i xs
