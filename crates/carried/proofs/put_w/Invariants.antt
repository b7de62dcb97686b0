use Prim.Native.Nat.{ℕ}
use mathlib.Core.{List.{[], ◌∷◌}}
use Rattle.tables.specs.Places.{w_at}
use Rattle.carried.specs.{Laid.Laid, Panels.{rows_below}}
use Rattle.carried.proofs.put_w.Given as goal

abbrev pub invariant-loop-j : goal.invariant-loop-j
invariant-loop-j v = Laid v.initial.out 8 (rows_below v.j (λ (i : ℕ). w_at v.fn.ws i ∷ [])) v.out
