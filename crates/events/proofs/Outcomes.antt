-- Each contract of this crate allows one outcome.
-- Assumes nothing.
use mathlib.Core.Path.{sym, ◌∙◌}
use Rattle.basics.specs.Outcome.{OneResult}
use Rattle.events.proofs.rules.write_done.Kinds as write-done-kinds
use Rattle.events.proofs.rules.write_done.Reads as write_done
use Rattle.events.proofs.rules.read_done.Kinds as read-done-kinds
use Rattle.events.proofs.rules.read_done.Reads as read_done
use Rattle.events.proofs.take.write_from_done.Kinds as write-from-done-kinds
use Rattle.events.proofs.take.write_from_done.Reads as write-from-done
use Rattle.events.proofs.rules.read_from_done.Kinds as read-from-done-kinds
use Rattle.events.proofs.rules.read_from_done.Reads as read-from-done
use Rattle.events.proofs.rules.proceed_from_done.Kinds as proceed-from-done-kinds
use Rattle.events.proofs.rules.proceed_from_done.Reads as proceed-from-done

pub write-done-only : OneResult 0 write-done-kinds.ps write-done-kinds.r write_done.Post
write-done-only κs a x y e f p q = p ∙ sym q

pub read-done-only : OneResult 0 read-done-kinds.ps read-done-kinds.r read_done.Post
read-done-only κs a x y e f p q = p ∙ sym q

pub write-from-done-only : OneResult 0 write-from-done-kinds.ps write-from-done-kinds.r write-from-done.Post
write-from-done-only κs a x y e f p q = p ∙ sym q

pub read-from-done-only : OneResult 0 read-from-done-kinds.ps read-from-done-kinds.r read-from-done.Post
read-from-done-only κs a x y e f p q = p ∙ sym q

pub proceed-from-done-only : OneResult 0 proceed-from-done-kinds.ps proceed-from-done-kinds.r proceed-from-done.Post
proceed-from-done-only κs a x y e f p q = p ∙ sym q
