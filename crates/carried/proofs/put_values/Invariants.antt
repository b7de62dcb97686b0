use Prim.Native.Nat.{ℕ, ◌+◌}
use lib.ListN.{get_or}
use Rattle.codec.{specs.Numbers.bytes_of}
use Rattle.carried.specs.{Laid.Laid, Panels.{rows_below}}
use Rattle.carried.proofs.put_values.Given as goal

abbrev pub invariant-loop-k : goal.invariant-loop-k
invariant-loop-k v = Laid v.initial.out 766 (rows_below v.k (λ (i : ℕ). bytes_of 4 (get_or v.fn.history (i + 1) 0))) v.out
