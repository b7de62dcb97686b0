-- Each contract of this crate allows one outcome.
-- Assumes nothing.
use mathlib.Core.{List.List, Path.{refl, sym, ap, ◌∙◌}}
use Prim.Native.Nat.{ℕ}
use Rattle.basics.specs.Outcome.{OneResult, OneOutcome}
use Rattle.messages.specs.Area.{Area}
use Rattle.compared.specs.Reported.{Reported}
use Rattle.compared.proofs.compared_read_refusal.Kinds as read-refusal-kinds
use Rattle.compared.proofs.compared_read_refusal.Reads as read-refusal
use Rattle.compared.proofs.compared_read_kind.Kinds as read-kind-kinds
use Rattle.compared.proofs.compared_read_kind.Reads as read-kind
use Rattle.compared.proofs.compared_read_value.Kinds as read-value-kinds
use Rattle.compared.proofs.compared_read_value.Reads as read-value
use Rattle.compared.proofs.compared_read_used.Kinds as read-used-kinds
use Rattle.compared.proofs.compared_read_used.Reads as read-used
use Rattle.compared.proofs.compared_write_refusal.Kinds as write-refusal-kinds
use Rattle.compared.proofs.compared_write_refusal.Reads as write-refusal
use Rattle.compared.proofs.compared_write_used.Kinds as write-used-kinds
use Rattle.compared.proofs.compared_write_used.Reads as write-used
use Rattle.compared.proofs.compared_panel_write.Kinds as panel-write-kinds
use Rattle.compared.proofs.compared_panel_write.Reads as panel-write
use Rattle.compared.proofs.compared_panel_read.Kinds as panel-read-kinds
use Rattle.compared.proofs.compared_panel_read.Reads as panel-read
use Rattle.compared.proofs.compared_panel_write_from.Kinds as panel-write-from-kinds
use Rattle.compared.proofs.compared_panel_write_from.Reads as panel-write-from
use Rattle.compared.proofs.compared_panel_read_from.Kinds as panel-read-from-kinds
use Rattle.compared.proofs.compared_panel_read_from.Reads as panel-read-from
use Rattle.compared.proofs.compared_panel_proceed_from.Kinds as panel-proceed-from-kinds
use Rattle.compared.proofs.compared_panel_proceed_from.Reads as panel-proceed-from
use Rattle.compared.proofs.compared_panel_in_form.Kinds as panel-in-form-kinds
use Rattle.compared.proofs.compared_panel_in_form.Reads as panel-in-form
use Rattle.compared.proofs.compared_panel_set_up.Kinds as panel-set-up-kinds
use Rattle.compared.proofs.compared_panel_set_up.Reads as panel-set-up
use Rattle.compared.proofs.networks.compared_network_set_up.Kinds as network-set-up-kinds
use Rattle.compared.proofs.networks.compared_network_set_up.Reads as network-set-up
use Rattle.compared.proofs.networks.compared_network_in_form.Kinds as network-in-form-kinds
use Rattle.compared.proofs.networks.compared_network_in_form.Reads as network-in-form
use Rattle.compared.proofs.networks.compared_network_write.Kinds as network-write-kinds
use Rattle.compared.proofs.networks.compared_network_write.Reads as network-write
use Rattle.compared.proofs.networks.compared_network_read.Kinds as network-read-kinds
use Rattle.compared.proofs.networks.compared_network_read.Reads as network-read
use Rattle.compared.proofs.networks.compared_network_deliver.Kinds as network-deliver-kinds
use Rattle.compared.proofs.networks.compared_network_deliver.Reads as network-deliver
use Rattle.compared.proofs.networks.compared_network_lose_power.Kinds as network-lose-power-kinds
use Rattle.compared.proofs.networks.compared_network_lose_power.Reads as network-lose-power
use Rattle.compared.proofs.networks.compared_network_next_delivery.Kinds as network-next-delivery-kinds
use Rattle.compared.proofs.networks.compared_network_next_delivery.Reads as network-next-delivery
use Rattle.compared.proofs.networks.compared_network_drain.Kinds as network-drain-kinds
use Rattle.compared.proofs.networks.compared_network_drain.Reads as network-drain
use Rattle.compared.proofs.listings.compared_listing.Kinds as listing-kinds
use Rattle.compared.proofs.listings.compared_listing.Reads as listing

pub read-refusal-only : OneResult 1 read-refusal-kinds.ps read-refusal-kinds.r read-refusal.Post
read-refusal-only κs a x y e f p q = p ∙ sym q

pub read-kind-only : OneResult 1 read-kind-kinds.ps read-kind-kinds.r read-kind.Post
read-kind-only κs a x y e f p q = p ∙ sym q

pub read-value-only : OneResult 1 read-value-kinds.ps read-value-kinds.r read-value.Post
read-value-only κs a x y e f p q = p ∙ sym q

pub read-used-only : OneResult 1 read-used-kinds.ps read-used-kinds.r read-used.Post
read-used-only κs a x y e f p q = p ∙ sym q

pub write-refusal-only : OneOutcome 1 write-refusal-kinds.ps write-refusal-kinds.r (λ κs e. e.1.1.0.now) write-refusal.Post
write-refusal-only κs a x y e f p q = (p.0 ∙ sym q.0, p.1 ∙ sym q.1)

pub write-used-only : OneOutcome 1 write-used-kinds.ps write-used-kinds.r (λ κs e. e.1.1.0.now) write-used.Post
write-used-only κs a x y e f p q = (p.0 ∙ sym q.0, p.1 ∙ sym q.1)

-- ---- a lone panel: the count, and what the message area and `out` hold afterwards

pub panel-write-only :
    OneOutcome 5 panel-write-kinds.ps panel-write-kinds.r {A = Area × List ℕ}
    (λ κs e. (record { receivers = e.1.1.0.now; kinds = e.1.1.1.0.now; values = e.1.1.1.1.0.now }, e.1.1.1.1.1.0.now))
    panel-write.Post
panel-write-only κs a x y e f p q = (ap (λ (r : Reported). r.count) (p ∙ sym q), ap (λ (r : Reported). (r.area, r.out)) (p ∙ sym q))

pub panel-read-only :
    OneOutcome 5 panel-read-kinds.ps panel-read-kinds.r {A = Area × List ℕ}
    (λ κs e. (record { receivers = e.1.0.now; kinds = e.1.1.0.now; values = e.1.1.1.0.now }, e.1.1.1.1.0.now))
    panel-read.Post
panel-read-only κs a x y e f p q = (ap (λ (r : Reported). r.count) (p ∙ sym q), ap (λ (r : Reported). (r.area, r.out)) (p ∙ sym q))

pub panel-write-from-only :
    OneOutcome 5 panel-write-from-kinds.ps panel-write-from-kinds.r {A = Area × List ℕ}
    (λ κs e. (record { receivers = e.1.1.1.1.0.now; kinds = e.1.1.1.1.1.0.now; values = e.1.1.1.1.1.1.0.now }, e.1.1.1.1.1.1.1.0.now))
    panel-write-from.Post
panel-write-from-only κs a x y e f p q = (ap (λ (r : Reported). r.count) (p ∙ sym q), ap (λ (r : Reported). (r.area, r.out)) (p ∙ sym q))

pub panel-read-from-only :
    OneOutcome 5 panel-read-from-kinds.ps panel-read-from-kinds.r {A = Area × List ℕ}
    (λ κs e. (record { receivers = e.1.1.0.now; kinds = e.1.1.1.0.now; values = e.1.1.1.1.0.now }, e.1.1.1.1.1.0.now))
    panel-read-from.Post
panel-read-from-only κs a x y e f p q = (ap (λ (r : Reported). r.count) (p ∙ sym q), ap (λ (r : Reported). (r.area, r.out)) (p ∙ sym q))

pub panel-proceed-from-only :
    OneOutcome 5 panel-proceed-from-kinds.ps panel-proceed-from-kinds.r {A = Area × List ℕ}
    (λ κs e. (record { receivers = e.1.1.0.now; kinds = e.1.1.1.0.now; values = e.1.1.1.1.0.now }, e.1.1.1.1.1.0.now))
    panel-proceed-from.Post
panel-proceed-from-only κs a x y e f p q = (ap (λ (r : Reported). r.count) (p ∙ sym q), ap (λ (r : Reported). (r.area, r.out)) (p ∙ sym q))

pub panel-in-form-only : OneResult 1 panel-in-form-kinds.ps panel-in-form-kinds.r panel-in-form.Post
panel-in-form-only κs a x y e f p q = p ∙ sym q

pub panel-set-up-only : OneOutcome 1 panel-set-up-kinds.ps panel-set-up-kinds.r (λ κs e. e.1.1.1.1.1.0.now) panel-set-up.Post
panel-set-up-only κs a x y e f p q = (p.0 ∙ sym q.0, p.1 ∙ sym q.1)

-- ---- a network: the result, and what `out` holds afterwards

pub network-set-up-only : OneOutcome 1 network-set-up-kinds.ps network-set-up-kinds.r (λ κs e. e.1.1.1.1.0.now) network-set-up.Post
network-set-up-only κs a x y e f p q = (p.0 ∙ sym q.0, p.1 ∙ sym q.1)

pub network-in-form-only : OneResult 1 network-in-form-kinds.ps network-in-form-kinds.r network-in-form.Post
network-in-form-only κs a x y e f p q = p ∙ sym q

pub network-write-only : OneOutcome 2 network-write-kinds.ps network-write-kinds.r (λ κs e. e.1.1.0.now) network-write.Post
network-write-only κs a x y e f p q = (refl, p ∙ sym q)

pub network-read-only : OneOutcome 2 network-read-kinds.ps network-read-kinds.r (λ κs e. e.1.1.0.now) network-read.Post
network-read-only κs a x y e f p q = (refl, p ∙ sym q)

pub network-deliver-only : OneOutcome 2 network-deliver-kinds.ps network-deliver-kinds.r (λ κs e. e.1.1.1.1.0.now) network-deliver.Post
network-deliver-only κs a x y e f p q = (refl, p ∙ sym q)

pub network-lose-power-only : OneOutcome 2 network-lose-power-kinds.ps network-lose-power-kinds.r (λ κs e. e.1.1.0.now) network-lose-power.Post
network-lose-power-only κs a x y e f p q = (refl, p ∙ sym q)

pub network-next-delivery-only : OneOutcome 2 network-next-delivery-kinds.ps network-next-delivery-kinds.r (λ κs e. e.1.0.now) network-next-delivery.Post
network-next-delivery-only κs a x y e f p q = (refl, p ∙ sym q)

pub network-drain-only : OneOutcome 2 network-drain-kinds.ps network-drain-kinds.r (λ κs e. e.1.0.now) network-drain.Post
network-drain-only κs a x y e f p q = (p.0 ∙ sym q.0, p.1 ∙ sym q.1)

-- ---- the listing

pub listing-only : OneOutcome 2 listing-kinds.ps listing-kinds.r (λ κs e. e.1.0.now) listing.Post
listing-only κs a x y e f p q = (p.0 ∙ sym q.0, p.1 ∙ sym q.1)
