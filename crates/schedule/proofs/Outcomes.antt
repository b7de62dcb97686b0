-- Each contract of this crate allows one outcome.
-- Assumes nothing.
use mathlib.Core.Path.{sym, ap, ◌∙◌}
use Rattle.basics.specs.Outcome.{OneResult, OneOutcome}
use Rattle.schedule.specs.Records.{Outcome}
use Rattle.schedule.proofs.size_of.Kinds as size-of-kinds
use Rattle.schedule.proofs.size_of.Reads as size-of
use Rattle.schedule.proofs.read_record.Kinds as read-record-kinds
use Rattle.schedule.proofs.read_record.Reads as read_record
use Rattle.schedule.proofs.write_record.Kinds as write-record-kinds
use Rattle.schedule.proofs.write_record.Reads as write_record

pub size-of-only : OneResult 0 size-of-kinds.ps size-of-kinds.r size-of.Post
size-of-only κs a x y e f p q = p ∙ sym q

pub read-record-only : OneResult 1 read-record-kinds.ps read-record-kinds.r read_record.Post
read-record-only κs a x y e f p q = p ∙ sym q

pub write-record-only : OneOutcome 1 write-record-kinds.ps write-record-kinds.r (λ κs e. e.1.0.now) write_record.Post
write-record-only κs a x y e f p q = (ap (λ (o : Outcome). o.answer) (p ∙ sym q), ap (λ (o : Outcome). o.area) (p ∙ sym q))
