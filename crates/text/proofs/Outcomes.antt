-- Each contract of this crate allows one outcome.
-- Assumes nothing.
use mathlib.Core.Path.{sym, ◌∙◌}
use Rattle.basics.specs.Outcome.{OneResult}
use Rattle.text.proofs.first_line.Kinds as first-line-kinds
use Rattle.text.proofs.first_line.Reads as first-line
use Rattle.text.proofs.too_long.Kinds as too-long-kinds
use Rattle.text.proofs.too_long.Reads as too_long
use Rattle.text.proofs.line_text.Kinds as line-text-kinds
use Rattle.text.proofs.line_text.Reads as line-text

pub first-line-only : OneResult 0 first-line-kinds.ps first-line-kinds.r first-line.Post
first-line-only κs a x y e f p q = p ∙ sym q

pub too-long-only : OneResult 0 too-long-kinds.ps too-long-kinds.r too_long.Post
too-long-only κs a x y e f p q = p ∙ sym q

pub line-text-only : OneResult 0 line-text-kinds.ps line-text-kinds.r line-text.Post
line-text-only κs a x y e f p q = p.0 ∙ sym q.0
