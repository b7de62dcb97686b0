-- Each contract of this crate allows one outcome.
-- Assumes nothing.
use mathlib.Core.Path.{sym, ◌∙◌}
use Rattle.basics.specs.Outcome.{OneResult}
use Rattle.house.proofs.downs.Kinds as downs-kinds
use Rattle.house.proofs.downs.Reads as downs
use Rattle.house.proofs.may_be_down.Kinds as may-be-down-kinds
use Rattle.house.proofs.may_be_down.Reads as may-be-down
use Rattle.house.proofs.in_form.Kinds as in-form-kinds
use Rattle.house.proofs.in_form.Reads as in-form
use Rattle.house.proofs.first_in_flight.Kinds as first-in-flight-kinds
use Rattle.house.proofs.first_in_flight.Reads as first-in-flight
use Rattle.house.proofs.whole.Kinds as whole-kinds
use Rattle.house.proofs.whole.Reads as whole

pub downs-only : OneResult 0 downs-kinds.ps downs-kinds.r downs.Post
downs-only κs a x y e f p q = p.0 ∙ sym q.0

pub may-be-down-only : OneResult 0 may-be-down-kinds.ps may-be-down-kinds.r may-be-down.Post
may-be-down-only κs a x y e f p q = p ∙ sym q

pub in-form-only : OneResult 0 in-form-kinds.ps in-form-kinds.r in-form.Post
in-form-only κs a x y e f p q = p ∙ sym q

pub first-in-flight-only : OneResult 0 first-in-flight-kinds.ps first-in-flight-kinds.r first-in-flight.Post
first-in-flight-only κs a x y e f p q = p ∙ sym q

pub whole-only : OneResult 0 whole-kinds.ps whole-kinds.r whole.Post
whole-only κs a x y e f p q = p.0 ∙ sym q.0
