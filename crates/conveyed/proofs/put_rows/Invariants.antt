use Prim.Native.Nat.{ℕ}
use lib.ListN.{get_or}
use Rattle.carried.specs.{Laid.Laid, Panels.rows_below}
use Rattle.channels.specs.Channels.{no_row}
use Rattle.conveyed.specs.Networks.{row_bytes}
use Rattle.conveyed.proofs.put_rows.Given as goal

abbrev pub invariant-loop-i : goal.invariant-loop-i
invariant-loop-i l = Laid l.initial.out 10969 (rows_below l.i (λ (k : ℕ). row_bytes (get_or l.fn.rs k no_row))) l.out
