-- What is read from a place on, and behind the end.
-- Assumes nothing.
use mathlib.Core.{List.List, Path.{◌≡◌, ap}}
use Prim.Native.Nat.{ℕ, ◌-◌, ◌<◌}
use native.Mathlib.Omega.{arith}
use lib.ListN.{length, take, drop, length-drop}
use Rattle.std.specs.Prelude.{Err}
use Rattle.basics.{proofs.Lists.part-behind, specs.declared.refused.Refusal.TheVariants.CutShort}
use Rattle.wire.{proofs.Cases.reading-none, specs.Messages.reading}
use Rattle.reader.specs.Messages.{reading_at}

module _ (s : List ℕ) (at : ℕ) where
  -- behind the end there is no byte
  pub reading-past : length s < at → reading_at s at ≡ Err CutShort
  reading-past h = reading-none (drop at s) (omega (arith, length-drop at s))

  pub reading-behind : reading (take (length s - at) (drop at s)) ≡ reading_at s at
  reading-behind = ap reading (part-behind s at)

-- by which the check itself finds what is read from a place on
pub ruleset behind = (reading-past, reading-behind)
