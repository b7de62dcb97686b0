use Prim.Native.Nat.{ℕ}
use Rattle.tables.specs.Places.{line_at}
use Rattle.carried.specs.{Laid.Laid, Panels.{rows_below, line_bytes}}
use Rattle.carried.proofs.put_lines.Given as goal

abbrev pub invariant-loop-j : goal.invariant-loop-j
invariant-loop-j v = Laid v.initial.out 57 (rows_below v.j (λ (i : ℕ). line_bytes (line_at v.fn.ls i))) v.out
