use Prim.Native.Nat.{ℕ, ◌+◌}
use mathlib.Core.{List.{[], ◌∷◌}}
use Rattle.tables.specs.Places.{w_at}
use Rattle.carried.specs.{Laid.Laid, Panels.{rows_below}}
use Rattle.carried.proofs.put_line.Given as goal

abbrev pub invariant-loop-k : goal.invariant-loop-k
invariant-loop-k v = Laid v.initial.out (v.at + 1) (rows_below v.k (λ (i : ℕ). w_at v.fn.l.sn i ∷ [])) v.out
