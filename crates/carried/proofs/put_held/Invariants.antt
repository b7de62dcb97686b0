use Prim.Native.Nat.{ℕ}
use Rattle.tables.specs.Places.{hold_at}
use Rattle.carried.specs.{Laid.Laid, Panels.{rows_below, hold_bytes}}
use Rattle.carried.proofs.put_held.Given as goal

abbrev pub invariant-loop-j : goal.invariant-loop-j
invariant-loop-j v = Laid v.initial.out 22 (rows_below v.j (λ (i : ℕ). hold_bytes (hold_at v.fn.hs i))) v.out
