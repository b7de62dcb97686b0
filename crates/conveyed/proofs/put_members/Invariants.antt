use Prim.Native.Nat.{ℕ}
use lib.ListN.{get_or}
use Rattle.carried.specs.{Laid.Laid, Panels.{rows_below, panel_bytes}}
use Rattle.house.specs.Places.{nobody}
use Rattle.conveyed.proofs.put_members.Given as goal

abbrev pub invariant-loop-i : goal.invariant-loop-i
invariant-loop-i l = Laid l.initial.out 0 (rows_below l.i (λ (k : ℕ). panel_bytes (get_or l.fn.ps k nobody).tables)) l.out
