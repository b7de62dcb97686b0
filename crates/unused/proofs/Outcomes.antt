-- The contract of this crate allows one outcome.
-- Assumes nothing.
use mathlib.Core.Path.{sym, ◌∙◌}
use Rattle.basics.specs.Outcome.{OneResult}
use Rattle.unused.proofs.unused.Kinds as unused-kinds
use Rattle.unused.proofs.unused.Reads as unused

pub unused-only : OneResult 0 unused-kinds.ps unused-kinds.r unused.Post
unused-only κs a x y e f p q = p ∙ sym q
