use Prim.Native.Nat.{ℕ, ◌≤◌}
use lib.ListN.{get_or}
use mathlib.Core.{Bool.false, Path.◌≡◌}
use Rattle.basics.specs.Below.{count_below}
use Rattle.tables.proofs.enough.Given as goal

abbrev pub invariant-loop-m : goal.invariant-loop-m
invariant-loop-m l = (l.count ≤ l.m-index) × (l.count ≡ count_below l.m-index (λ (j : ℕ). get_or l.fn.marked j false))
