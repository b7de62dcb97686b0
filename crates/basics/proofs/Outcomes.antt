-- Each contract of this crate allows one outcome.
-- Assumes nothing.
use mathlib.Core.Path.{sym, ◌∙◌}
use Rattle.basics.specs.Outcome.{OneResult}
use Rattle.basics.proofs.both.Kinds as both-kinds
use Rattle.basics.proofs.both.Reads as both
use Rattle.basics.proofs.choose.Kinds as choose-kinds
use Rattle.basics.proofs.choose.Reads as choose
use Rattle.basics.proofs.one_if.Kinds as one-if-kinds
use Rattle.basics.proofs.one_if.Reads as one-if
use Rattle.basics.proofs.byte_if.Kinds as byte-if-kinds
use Rattle.basics.proofs.byte_if.Reads as byte-if
use Rattle.basics.proofs.wide.Kinds as wide-kinds
use Rattle.basics.proofs.wide.Reads as wide
use Rattle.basics.proofs.least.Kinds as least-kinds
use Rattle.basics.proofs.least.Reads as least
use Rattle.basics.proofs.refused.Refusal.number.Kinds as number-kinds
use Rattle.basics.proofs.refused.Refusal.number.Reads as number
use Rattle.basics.proofs.refused.Refusal.when.Kinds as when-kinds
use Rattle.basics.proofs.refused.Refusal.when.Reads as when
use Rattle.basics.proofs.kinds.Kind.byte.Kinds as byte-kinds
use Rattle.basics.proofs.kinds.Kind.byte.Reads as byte

pub both-only : OneResult 0 both-kinds.ps both-kinds.r both.Post
both-only κs a x y e f p q = p ∙ sym q

pub choose-only : OneResult 0 choose-kinds.ps choose-kinds.r choose.Post
choose-only κs a x y e f p q = p ∙ sym q

pub one-if-only : OneResult 0 one-if-kinds.ps one-if-kinds.r one-if.Post
one-if-only κs a x y e f p q = p.0 ∙ sym q.0

pub byte-if-only : OneResult 0 byte-if-kinds.ps byte-if-kinds.r byte-if.Post
byte-if-only κs a x y e f p q = p ∙ sym q

pub wide-only : OneResult 0 wide-kinds.ps wide-kinds.r wide.Post
wide-only κs a x y e f p q = p.0 ∙ sym q.0

pub least-only : OneResult 0 least-kinds.ps least-kinds.r least.Post
least-only κs a x y e f p q = p ∙ sym q

pub number-only : OneResult 0 number-kinds.ps number-kinds.r number.Post
number-only κs a x y e f p q = p.0 ∙ sym q.0

pub when-only : OneResult 0 when-kinds.ps when-kinds.r when.Post
when-only κs a x y e f p q = p ∙ sym q

pub byte-only : OneResult 0 byte-kinds.ps byte-kinds.r byte.Post
byte-only κs a x y e f p q = p.0 ∙ sym q.0
