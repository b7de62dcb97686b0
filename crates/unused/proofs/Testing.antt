-- What the loops over places go by: no place yet, and one place more.
-- Assumes nothing.
use mathlib.Core.{Bool.{Bool, true}, Path.{◌≡◌, refl}}
use Prim.Native.Nat.{ℕ}
use Rattle.basics.{proofs.Below.all-next, specs.Below.all_below}

pub all-none : (f : ℕ → Bool) → all_below 0 f ≡ true
unfolding all_below
all-none f = refl

pub ruleset places = (all-none, all-next)
