-- Each contract of this crate allows one outcome.
-- Assumes nothing.
use mathlib.Core.Path.{sym, ap, ◌∙◌}
use Rattle.house.specs.declared.Network.{Network}
use Rattle.steps.specs.declared.Stepped.{Stepped}
use Rattle.basics.specs.Outcome.{OneResult, OneOutcome}
use Rattle.parts.proofs.delivery.Kinds as delivery-kinds
use Rattle.parts.proofs.delivery.Reads as delivery
use Rattle.parts.proofs.step_at.Kinds as step-at-kinds
use Rattle.parts.proofs.step_at.Reads as step-at
use Rattle.parts.proofs.actor.Kinds as actor-kinds
use Rattle.parts.proofs.actor.Reads as actor
use Rattle.parts.proofs.sender.Kinds as sender-kinds
use Rattle.parts.proofs.sender.Reads as sender
use Rattle.parts.proofs.code_of.Kinds as code-of-kinds
use Rattle.parts.proofs.code_of.Reads as code-of
use Rattle.parts.proofs.act.Kinds as act-kinds
use Rattle.parts.proofs.act.Reads as act
use Rattle.parts.proofs.step_in_place.Kinds as step-in-place-kinds
use Rattle.parts.proofs.step_in_place.Reads as step-in-place

pub delivery-only : OneResult 0 delivery-kinds.ps delivery-kinds.r delivery.Post
delivery-only κs a x y e f p q = p ∙ sym q

pub step-at-only : OneResult 0 step-at-kinds.ps step-at-kinds.r step-at.Post
step-at-only κs a x y e f p q = p ∙ sym q

pub actor-only : OneResult 0 actor-kinds.ps actor-kinds.r actor.Post
actor-only κs a x y e f p q = p.0 ∙ sym q.0

pub sender-only : OneResult 0 sender-kinds.ps sender-kinds.r sender.Post
sender-only κs a x y e f p q = p.0 ∙ sym q.0

pub code-of-only : OneResult 0 code-of-kinds.ps code-of-kinds.r code-of.Post
code-of-only κs a x y e f p q = p ∙ sym q

pub act-only : OneResult 0 act-kinds.ps act-kinds.r act.Post
act-only κs a x y e f p q = p ∙ sym q

pub step-in-place-only : OneOutcome 1 step-in-place-kinds.ps step-in-place-kinds.r {A = Network} (λ κs e. e.0.now) step-in-place.Post
step-in-place-only κs a x y e f p q = (ap (λ (o : Stepped). o.answer) (p ∙ sym q), ap (λ (o : Stepped). o.network) (p ∙ sym q))
