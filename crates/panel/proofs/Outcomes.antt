-- Each contract of this crate allows one outcome.
-- Assumes nothing.
use mathlib.Core.Path.{sym, ap, ◌∙◌}
use Rattle.basics.specs.Outcome.{OneResult, OneOutcome}
use Rattle.messages.specs.Area.{Area}
use Rattle.panel.specs.Calls.{Called}
use Rattle.panel.proofs.Panel.set_up.Kinds as set-up-kinds
use Rattle.panel.proofs.Panel.set_up.Reads as set_up
use Rattle.panel.proofs.Panel.nothing.Kinds as nothing-kinds
use Rattle.panel.proofs.Panel.nothing.Reads as no-panel
use Rattle.panel.proofs.Panel.in_form.Kinds as in-form-kinds
use Rattle.panel.proofs.Panel.in_form.Reads as in-form
use Rattle.panel.proofs.Panel.after_write.Kinds as after-write-kinds
use Rattle.panel.proofs.Panel.after_write.Reads as after_write
use Rattle.panel.proofs.Panel.after_read.Kinds as after-read-kinds
use Rattle.panel.proofs.Panel.after_read.Reads as after_read
use Rattle.panel.proofs.Panel.after_write_from.Kinds as after-write-from-kinds
use Rattle.panel.proofs.Panel.after_write_from.Reads as after-write-from
use Rattle.panel.proofs.Panel.after_read_from.Kinds as after-read-from-kinds
use Rattle.panel.proofs.Panel.after_read_from.Reads as after-read-from
use Rattle.panel.proofs.Panel.after_proceed_from.Kinds as after-proceed-from-kinds
use Rattle.panel.proofs.Panel.after_proceed_from.Reads as after-proceed-from
use Rattle.panel.proofs.Panel.write.Kinds as write-kinds
use Rattle.panel.proofs.Panel.write.Reads as write
use Rattle.panel.proofs.Panel.read.Kinds as read-kinds
use Rattle.panel.proofs.Panel.read.Reads as read
use Rattle.panel.proofs.Panel.write_from.Kinds as write-from-kinds
use Rattle.panel.proofs.Panel.write_from.Reads as write-from
use Rattle.panel.proofs.Panel.read_from.Kinds as read-from-kinds
use Rattle.panel.proofs.Panel.read_from.Reads as read-from
use Rattle.panel.proofs.Panel.proceed_from.Kinds as proceed-from-kinds
use Rattle.panel.proofs.Panel.proceed_from.Reads as proceed-from

pub set-up-only : OneResult 0 set-up-kinds.ps set-up-kinds.r set_up.Post
set-up-only κs a x y e f p q = p ∙ sym q

pub nothing-only : OneResult 0 nothing-kinds.ps nothing-kinds.r no-panel.Post
nothing-only κs a x y e f p q = p ∙ sym q

pub in-form-only : OneResult 0 in-form-kinds.ps in-form-kinds.r in-form.Post
in-form-only κs a x y e f p q = p ∙ sym q

pub after-write-only : OneResult 0 after-write-kinds.ps after-write-kinds.r after_write.Post
after-write-only κs a x y e f p q = p ∙ sym q

pub after-read-only : OneResult 0 after-read-kinds.ps after-read-kinds.r after_read.Post
after-read-only κs a x y e f p q = p ∙ sym q

pub after-write-from-only : OneResult 0 after-write-from-kinds.ps after-write-from-kinds.r after-write-from.Post
after-write-from-only κs a x y e f p q = p ∙ sym q

pub after-read-from-only : OneResult 0 after-read-from-kinds.ps after-read-from-kinds.r after-read-from.Post
after-read-from-only κs a x y e f p q = p ∙ sym q

pub after-proceed-from-only : OneResult 0 after-proceed-from-kinds.ps after-proceed-from-kinds.r after-proceed-from.Post
after-proceed-from-only κs a x y e f p q = p ∙ sym q

pub write-only : OneOutcome 3 write-kinds.ps write-kinds.r {A = Area} (λ κs e. record { receivers = e.1.1.0.now; kinds = e.1.1.1.0.now; values = e.1.1.1.1.0.now }) write.Post
write-only κs a x y e f p q = (ap (λ (c : Called). c.outcome) (p ∙ sym q), ap (λ (c : Called). c.area) (p ∙ sym q))

pub read-only : OneOutcome 3 read-kinds.ps read-kinds.r {A = Area} (λ κs e. record { receivers = e.1.0.now; kinds = e.1.1.0.now; values = e.1.1.1.0.now }) read.Post
read-only κs a x y e f p q = (ap (λ (c : Called). c.outcome) (p ∙ sym q), ap (λ (c : Called). c.area) (p ∙ sym q))

pub write-from-only : OneOutcome 3 write-from-kinds.ps write-from-kinds.r {A = Area} (λ κs e. record { receivers = e.1.1.1.1.0.now; kinds = e.1.1.1.1.1.0.now; values = e.1.1.1.1.1.1.0.now }) write-from.Post
write-from-only κs a x y e f p q = (ap (λ (c : Called). c.outcome) (p ∙ sym q), ap (λ (c : Called). c.area) (p ∙ sym q))

pub read-from-only : OneOutcome 3 read-from-kinds.ps read-from-kinds.r {A = Area} (λ κs e. record { receivers = e.1.1.0.now; kinds = e.1.1.1.0.now; values = e.1.1.1.1.0.now }) read-from.Post
read-from-only κs a x y e f p q = (ap (λ (c : Called). c.outcome) (p ∙ sym q), ap (λ (c : Called). c.area) (p ∙ sym q))

pub proceed-from-only : OneOutcome 3 proceed-from-kinds.ps proceed-from-kinds.r {A = Area} (λ κs e. record { receivers = e.1.1.0.now; kinds = e.1.1.1.0.now; values = e.1.1.1.1.0.now }) proceed-from.Post
proceed-from-only κs a x y e f p q = (ap (λ (c : Called). c.outcome) (p ∙ sym q), ap (λ (c : Called). c.area) (p ∙ sym q))
