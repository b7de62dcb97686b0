use Prim.Native.Nat.{ℕ}
use lib.ListN.{get_or}
use mathlib.Core.{Bool.false, List.{[], ◌∷◌}}
use Rattle.basics.specs.Below.{one_if}
use Rattle.carried.specs.{Laid.Laid, Panels.rows_below}
use Rattle.conveyed.proofs.put_down.Given as goal

abbrev pub invariant-loop-i : goal.invariant-loop-i
invariant-loop-i l = Laid l.initial.out 10962 (rows_below l.i (λ (k : ℕ). one_if (get_or l.fn.down k false) ∷ [])) l.out
