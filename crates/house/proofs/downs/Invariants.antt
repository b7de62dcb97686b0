use Prim.Native.Nat.{ℕ, ◌≤◌}
use lib.ListN.{get_or}
use mathlib.Core.{Bool.false, Path.◌≡◌}
use Rattle.basics.specs.Below.{count_below}
use Rattle.house.proofs.downs.Given as goal

abbrev pub invariant-loop-d : goal.invariant-loop-d
invariant-loop-d l = (l.count ≤ l.d-index) × (l.count ≡ count_below l.d-index (λ (j : ℕ). get_or l.fn.down j false))
