-- Each contract of this crate allows one outcome.
-- Assumes nothing.
use mathlib.Core.Path.{refl, sym, ◌∙◌}
use Rattle.basics.specs.Outcome.{OneResult, OneOutcome}
use Rattle.carried.proofs.hold_from.Kinds as hold-from-kinds
use Rattle.carried.proofs.hold_from.Reads as hold-from
use Rattle.carried.proofs.put_hold.Kinds as put-hold-kinds
use Rattle.carried.proofs.put_hold.Reads as put-hold
use Rattle.carried.proofs.panel_from.Kinds as panel-from-kinds
use Rattle.carried.proofs.panel_from.Reads as panel-from
use Rattle.carried.proofs.panel_into.Kinds as panel-into-kinds
use Rattle.carried.proofs.panel_into.Reads as panel-into

pub panel-from-only : OneResult 1 panel-from-kinds.ps panel-from-kinds.r panel-from.Post
panel-from-only κs a x y e f p q = p ∙ sym q

pub panel-into-only : OneOutcome 1 panel-into-kinds.ps panel-into-kinds.r (λ κs e. e.1.0.now) panel-into.Post
panel-into-only κs a x y e f p q = (refl, p ∙ sym q)

pub hold-from-only : OneResult 1 hold-from-kinds.ps hold-from-kinds.r hold-from.Post
hold-from-only κs a x y e f p q = p ∙ sym q

pub put-hold-only : OneOutcome 1 put-hold-kinds.ps put-hold-kinds.r (λ κs e. e.1.1.0.now) put-hold.Post
put-hold-only κs a x y e f p q = (refl, p.is ∙ sym q.is)
