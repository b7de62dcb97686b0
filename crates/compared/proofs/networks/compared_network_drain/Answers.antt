use Prim.Native.Nat.{ℕ}
use mathlib.Core.{List.{[], ◌∷◌}, Path.ap}
use Rattle.carried.proofs.Rows.{laid_as, laid-byte}
use Rattle.compared.proofs.{Stepping.{draining, network-then}}
use Rattle.compared.specs.Stepping.{drained_bytes}
use Rattle.compared.proofs.networks.compared_network_drain.Goals as goal

pub returns : goal.returns
unfolding drained_bytes
returns c = draining _ _ _ _ _ _ c.network_from-s.ensures c.drain-o.ensures c.unwrap_or.ensures (network-then _ _ _ _ _ c.network_into.ensures (laid_as (ap (λ (b : ℕ). b ∷ []) c.code.ensures) (laid-byte c.put_byte.ensures)))
