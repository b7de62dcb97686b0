-- The contract of this crate's call allows one outcome.
-- Assumes nothing.
use mathlib.Core.Path.{sym, ap, ◌∙◌}
use Rattle.basics.specs.Outcome.{OneOutcome}
use Rattle.listing.specs.Listing.{Outcome}
use Rattle.listing.proofs.listing.Kinds as listing-kinds
use Rattle.listing.proofs.listing.Reads as listing-reads

pub listing-only : OneOutcome 2 listing-kinds.ps listing-kinds.r (λ κs e. e.1.0.now) listing-reads.Post
listing-only κs a x y e f p q = (ap (λ (o : Outcome). o.answer) (p.0 ∙ sym q.0), ap (λ (o : Outcome). o.area) (p.0 ∙ sym q.0))
