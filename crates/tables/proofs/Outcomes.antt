-- Each contract of this crate allows one outcome.
-- Assumes nothing.
use mathlib.Core.Path.{sym, ◌∙◌}
use Rattle.basics.specs.Outcome.{OneResult}
use Rattle.tables.proofs.line_ok.Kinds as line-ok-kinds
use Rattle.tables.proofs.line_ok.Reads as line_ok
use Rattle.tables.proofs.hold_ok.Kinds as hold-ok-kinds
use Rattle.tables.proofs.hold_ok.Reads as hold-ok
use Rattle.tables.proofs.quiet_ok.Kinds as quiet-ok-kinds
use Rattle.tables.proofs.quiet_ok.Reads as quiet_ok
use Rattle.tables.proofs.history_ok.Kinds as history-ok-kinds
use Rattle.tables.proofs.history_ok.Reads as history-ok
use Rattle.tables.proofs.has_w.Kinds as has-w-kinds
use Rattle.tables.proofs.has_w.Reads as has-w
use Rattle.tables.proofs.reaches_w.Kinds as reaches-w-kinds
use Rattle.tables.proofs.reaches_w.Reads as reaches-w
use Rattle.tables.proofs.has_r.Kinds as has-r-kinds
use Rattle.tables.proofs.has_r.Reads as has_r
use Rattle.tables.proofs.others.Kinds as others-kinds
use Rattle.tables.proofs.others.Reads as others
use Rattle.tables.proofs.only_place.Kinds as only-place-kinds
use Rattle.tables.proofs.only_place.Reads as only-place
use Rattle.tables.proofs.enough.Kinds as enough-kinds
use Rattle.tables.proofs.enough.Reads as enough
use Rattle.tables.proofs.joined.Kinds as joined-kinds
use Rattle.tables.proofs.joined.Reads as joined
use Rattle.tables.proofs.leaving.Kinds as leaving-kinds
use Rattle.tables.proofs.leaving.Reads as leaving
use Rattle.tables.proofs.without.Kinds as without-kinds
use Rattle.tables.proofs.without.Reads as without

pub line-ok-only : OneResult 0 line-ok-kinds.ps line-ok-kinds.r line_ok.Post
line-ok-only κs a x y e f p q = p ∙ sym q

pub hold-ok-only : OneResult 0 hold-ok-kinds.ps hold-ok-kinds.r hold-ok.Post
hold-ok-only κs a x y e f p q = p ∙ sym q

pub quiet-ok-only : OneResult 0 quiet-ok-kinds.ps quiet-ok-kinds.r quiet_ok.Post
quiet-ok-only κs a x y e f p q = p ∙ sym q

pub history-ok-only : OneResult 0 history-ok-kinds.ps history-ok-kinds.r history-ok.Post
history-ok-only κs a x y e f p q = p ∙ sym q

pub has-w-only : OneResult 0 has-w-kinds.ps has-w-kinds.r has-w.Post
has-w-only κs a x y e f p q = p ∙ sym q

pub reaches-w-only : OneResult 0 reaches-w-kinds.ps reaches-w-kinds.r reaches-w.Post
reaches-w-only κs a x y e f p q = p ∙ sym q

pub has-r-only : OneResult 0 has-r-kinds.ps has-r-kinds.r has_r.Post
has-r-only κs a x y e f p q = p ∙ sym q

pub others-only : OneResult 0 others-kinds.ps others-kinds.r others.Post
others-only κs a x y e f p q = p ∙ sym q

pub only-place-only : OneResult 0 only-place-kinds.ps only-place-kinds.r only-place.Post
only-place-only κs a x y e f p q = p ∙ sym q

pub enough-only : OneResult 0 enough-kinds.ps enough-kinds.r enough.Post
enough-only κs a x y e f p q = p ∙ sym q

pub joined-only : OneResult 0 joined-kinds.ps joined-kinds.r joined.Post
joined-only κs a x y e f p q = p ∙ sym q

pub leaving-only : OneResult 0 leaving-kinds.ps leaving-kinds.r leaving.Post
leaving-only κs a x y e f p q = p ∙ sym q

pub without-only : OneResult 0 without-kinds.ps without-kinds.r without.Post
without-only κs a x y e f p q = p ∙ sym q
