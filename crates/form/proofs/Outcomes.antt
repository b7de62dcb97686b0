-- Each contract of this crate allows one outcome.
-- Assumes nothing.
use mathlib.Core.Path.{sym, ◌∙◌}
use Rattle.basics.specs.Outcome.{OneResult}
use Rattle.form.proofs.fits.Kinds as fits-kinds
use Rattle.form.proofs.fits.Reads as fits
use Rattle.form.proofs.is_panel.Kinds as is-panel-kinds
use Rattle.form.proofs.is_panel.Reads as is-panel
use Rattle.form.proofs.in_form.Kinds as in-form-kinds
use Rattle.form.proofs.in_form.Reads as in-form
use Rattle.form.proofs.fresh.Kinds as fresh-kinds
use Rattle.form.proofs.fresh.Reads as fresh
use Rattle.form.proofs.Operation.is_idle.Kinds as is-idle-kinds
use Rattle.form.proofs.Operation.is_idle.Reads as is-idle

pub is-idle-only : OneResult 0 is-idle-kinds.ps is-idle-kinds.r is-idle.Post
is-idle-only κs a x y e f p q = p ∙ sym q

pub fits-only : OneResult 0 fits-kinds.ps fits-kinds.r fits.Post
fits-only κs a x y e f p q = p ∙ sym q

pub is-panel-only : OneResult 0 is-panel-kinds.ps is-panel-kinds.r is-panel.Post
is-panel-only κs a x y e f p q = p ∙ sym q

pub in-form-only : OneResult 0 in-form-kinds.ps in-form-kinds.r in-form.Post
in-form-only κs a x y e f p q = p ∙ sym q

pub fresh-only : OneResult 0 fresh-kinds.ps fresh-kinds.r fresh.Post
fresh-only κs a x y e f p q = p ∙ sym q
