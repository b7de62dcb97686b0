-- Each contract of this crate allows one outcome.
-- Assumes nothing.
use mathlib.Core.Path.{sym, ◌∙◌}
use Rattle.basics.specs.Outcome.{OneResult}
use Rattle.refusals.proofs.refused_write.Kinds as refused-write-kinds
use Rattle.refusals.proofs.refused_write.Reads as refused-write
use Rattle.refusals.proofs.refused_read.Kinds as refused-read-kinds
use Rattle.refusals.proofs.refused_read.Reads as refused-read
use Rattle.refusals.proofs.right_bit.Kinds as right-bit-kinds
use Rattle.refusals.proofs.right_bit.Reads as right-bit
use Rattle.refusals.proofs.refused_write_from.Kinds as refused-write-from-kinds
use Rattle.refusals.proofs.refused_write_from.Reads as refused-write-from
use Rattle.refusals.proofs.refused_read_from.Kinds as refused-read-from-kinds
use Rattle.refusals.proofs.refused_read_from.Reads as refused-read-from
use Rattle.refusals.proofs.refused_proceed_from.Kinds as refused-proceed-from-kinds
use Rattle.refusals.proofs.refused_proceed_from.Reads as refused-proceed-from

pub refused-write-only : OneResult 0 refused-write-kinds.ps refused-write-kinds.r refused-write.Post
refused-write-only κs a x y e f p q = p ∙ sym q

pub refused-read-only : OneResult 0 refused-read-kinds.ps refused-read-kinds.r refused-read.Post
refused-read-only κs a x y e f p q = p ∙ sym q

pub right-bit-only : OneResult 0 right-bit-kinds.ps right-bit-kinds.r right-bit.Post
right-bit-only κs a x y e f p q = p ∙ sym q

pub refused-write-from-only : OneResult 0 refused-write-from-kinds.ps refused-write-from-kinds.r refused-write-from.Post
refused-write-from-only κs a x y e f p q = p ∙ sym q

pub refused-read-from-only : OneResult 0 refused-read-from-kinds.ps refused-read-from-kinds.r refused-read-from.Post
refused-read-from-only κs a x y e f p q = p ∙ sym q

pub refused-proceed-from-only : OneResult 0 refused-proceed-from-kinds.ps refused-proceed-from-kinds.r refused-proceed-from.Post
refused-proceed-from-only κs a x y e f p q = p ∙ sym q
