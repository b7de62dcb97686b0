use Prim.Native.Nat.{ℕ}
use mathlib.Core.{List.{[], ◌∷◌}}
use Rattle.tables.specs.Places.{r_at}
use Rattle.carried.specs.{Laid.Laid, Panels.{rows_below}}
use Rattle.carried.proofs.put_r.Given as goal

abbrev pub invariant-loop-j : goal.invariant-loop-j
invariant-loop-j v = Laid v.initial.out 15 (rows_below v.j (λ (i : ℕ). r_at v.fn.rs i ∷ [])) v.out
