-- Each contract of this crate allows one outcome.
-- Assumes nothing.
use mathlib.Core.Path.{sym, ap, ◌∙◌}
use Rattle.basics.specs.Outcome.{OneResult, OneOutcome}
use Rattle.wire.specs.Messages.{Written}
use Rattle.wire.proofs.size_of.Kinds as size-of-kinds
use Rattle.wire.proofs.size_of.Reads as size-of
use Rattle.wire.proofs.read_message.Kinds as read-message-kinds
use Rattle.wire.proofs.read_message.Reads as read_message
use Rattle.wire.proofs.write_message.Kinds as write-message-kinds
use Rattle.wire.proofs.write_message.Reads as write_message

pub size-of-only : OneResult 0 size-of-kinds.ps size-of-kinds.r size-of.Post
size-of-only κs a x y e f p q = p ∙ sym q

pub read-message-only : OneResult 1 read-message-kinds.ps read-message-kinds.r read_message.Post
read-message-only κs a x y e f p q = p ∙ sym q

pub write-message-only : OneOutcome 1 write-message-kinds.ps write-message-kinds.r (λ κs e. e.1.1.0.now) write_message.Post
write-message-only κs a x y e f p q = (ap (λ (o : Written). o.answer) (p ∙ sym q), ap (λ (o : Written). o.area) (p ∙ sym q))
