-- Each contract of this crate allows one outcome.
-- Assumes nothing.
use mathlib.Core.Path.{sym, ◌∙◌}
use Rattle.basics.specs.Outcome.{OneResult}
use Rattle.network.proofs.set_up.Kinds as set-up-kinds
use Rattle.network.proofs.set_up.Reads as set_up
use Rattle.network.proofs.nothing.Kinds as nothing-kinds
use Rattle.network.proofs.nothing.Reads as nothing
use Rattle.network.proofs.in_form.Kinds as in-form-kinds
use Rattle.network.proofs.in_form.Reads as in-form
use Rattle.network.proofs.write.Kinds as write-kinds
use Rattle.network.proofs.write.Reads as write
use Rattle.network.proofs.read.Kinds as read-kinds
use Rattle.network.proofs.read.Reads as read
use Rattle.network.proofs.deliver.Kinds as deliver-kinds
use Rattle.network.proofs.deliver.Reads as deliver
use Rattle.network.proofs.lose_power.Kinds as lose-power-kinds
use Rattle.network.proofs.lose_power.Reads as lose-power
use Rattle.network.proofs.next_delivery.Kinds as next-delivery-kinds
use Rattle.network.proofs.next_delivery.Reads as next-delivery
use Rattle.network.proofs.drain.Kinds as drain-kinds
use Rattle.network.proofs.drain.Reads as drain

pub set-up-only : OneResult 0 set-up-kinds.ps set-up-kinds.r set_up.Post
set-up-only κs a x y e f p q = p ∙ sym q

pub nothing-only : OneResult 0 nothing-kinds.ps nothing-kinds.r nothing.Post
nothing-only κs a x y e f p q = p ∙ sym q

pub in-form-only : OneResult 0 in-form-kinds.ps in-form-kinds.r in-form.Post
in-form-only κs a x y e f p q = p ∙ sym q

pub write-only : OneResult 0 write-kinds.ps write-kinds.r write.Post
write-only κs a x y e f p q = p ∙ sym q

pub read-only : OneResult 0 read-kinds.ps read-kinds.r read.Post
read-only κs a x y e f p q = p ∙ sym q

pub deliver-only : OneResult 0 deliver-kinds.ps deliver-kinds.r deliver.Post
deliver-only κs a x y e f p q = p ∙ sym q

pub lose-power-only : OneResult 0 lose-power-kinds.ps lose-power-kinds.r lose-power.Post
lose-power-only κs a x y e f p q = p ∙ sym q

pub next-delivery-only : OneResult 0 next-delivery-kinds.ps next-delivery-kinds.r next-delivery.Post
next-delivery-only κs a x y e f p q = p ∙ sym q

pub drain-only : OneResult 0 drain-kinds.ps drain-kinds.r drain.Post
drain-only κs a x y e f p q = p ∙ sym q
