-- "Each message in flight to a powered panel is accepted when delivered." And a start is accepted where the panel accepts it.
-- Assumes nothing.
use Prim.Native.Nat.{ℕ, ◌-◌}
use mathlib.Core.Path.{◌≡◌}
use native.Mathlib.Omega.{arith}
use Rattle.std.specs.Prelude.{Some}
use Rattle.refusals.specs.Refusals.{refusal, Event.{write, read}}
use Rattle.promise.specs.View.{code_of}
use Rattle.house.specs.{Places.{tables_at, writer_of}, Search.first_in, declared.InFlight.InFlight, declared.Network.Network}
use Rattle.steps.proofs.{Accepting.{write-accepted, read-accepted, deliver-accepted}, Draining.next-may}
use Rattle.steps.{proofs.Passing.{MayWrite, MayRead, MayDeliver}, specs.Drain.next_in, specs.Steps.{write_in, read_in, deliver_in}}
use Rattle.runs.proofs.{Holding.Holds, Sparing.{write-spare, read-spare, deliver-spare}, Taking.message-taken}

module _ (s : Network) (h : Holds s) where
  pub write-ok : (v : ℕ) → MayWrite s → refusal (tables_at s (writer_of s - 1)) 107 (write v) ≡ 0 → code_of (write_in s v).answer ≡ 0
  write-ok v m z = write-accepted s h.good v m z (record { spare = write-spare s h v z })

  pub read_ok : (i : ℕ) → MayRead s i → refusal (tables_at s (i - 1)) 107 read ≡ 0 → code_of (read_in s i).answer ≡ 0
  read_ok i m z = read-accepted s h.good i m z (record { spare = read-spare s h i (omega (arith, m.low, m.high)) z })

  pub deliver-ok : (k i j : ℕ) → MayDeliver s k i j → code_of (deliver_in s k i j).answer ≡ 0
  deliver-ok k i j m = deliver-accepted s h.good k i j m (message-taken s h k i j m) (record { spare = deliver-spare s h k i j m })

  -- what the search finds
  pub next-ok : (x : InFlight) → first_in s ≡ Some x → code_of (next_in s x).answer ≡ 0
  unfolding next_in
  next-ok x e = deliver-ok x.kind x.sender x.receiver (next-may s h.good x e)
