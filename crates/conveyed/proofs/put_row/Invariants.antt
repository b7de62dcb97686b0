use Prim.Native.Nat.{ℕ}
use Rattle.carried.specs.{Laid.Laid, Panels.rows_below}
use Rattle.channels.specs.Channels.{channel_at}
use Rattle.conveyed.specs.Networks.{channel_bytes}
use Rattle.conveyed.proofs.put_row.Given as goal

abbrev pub invariant-loop-j : goal.invariant-loop-j
invariant-loop-j l = Laid l.initial.out l.fn.at (rows_below l.j (λ (k : ℕ). channel_bytes (channel_at l.fn.r k))) l.out
