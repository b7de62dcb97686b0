-- Bytes written into an area.
-- Assumes nothing.
use Rattle.std.specs.Prelude.{ℕ, ◌+◌}
use mathlib.Core.{List.List, Path.◌≡◌}
use lib.{ListN.length, Seq.sets}

-- bs is written at place `at` of l, and the place behind it is k
pub record Put (l : List ℕ) (at : ℕ) (bs l' : List ℕ) (k : ℕ) : Type 0 where
  pub place : k ≡ at + length bs
  pub area : l' ≡ sets l at bs
