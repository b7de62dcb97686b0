-- Each contract of this crate allows one outcome.
-- Assumes nothing.
use mathlib.Core.Path.{refl, sym, ◌∙◌}
use Rattle.basics.specs.Outcome.{OneResult, OneOutcome}
use Rattle.conveyed.proofs.network_from.Kinds as network-from-kinds
use Rattle.conveyed.proofs.network_from.Reads as network-from
use Rattle.conveyed.proofs.network_into.Kinds as network-into-kinds
use Rattle.conveyed.proofs.network_into.Reads as network-into

pub network-from-only : OneResult 1 network-from-kinds.ps network-from-kinds.r network-from.Post
network-from-only κs a x y e f p q = p ∙ sym q

pub network-into-only : OneOutcome 1 network-into-kinds.ps network-into-kinds.r (λ κs e. e.1.0.now) network-into.Post
network-into-only κs a x y e f p q = (refl, p ∙ sym q)
