-- Each contract of this crate allows one outcome.
-- Assumes nothing.
use mathlib.Core.Path.{sym, ap, ◌∙◌}
use Rattle.basics.specs.Outcome.{OneResult, OneOutcome}
use Rattle.messages.specs.Area.{Area, Laid}
use Rattle.messages.proofs.no_cast.Kinds as no-cast-kinds
use Rattle.messages.proofs.no_cast.Reads as no-cast
use Rattle.messages.proofs.no_sends.Kinds as no-sends-kinds
use Rattle.messages.proofs.no_sends.Reads as no-sends
use Rattle.messages.proofs.room_of.Kinds as room-of-kinds
use Rattle.messages.proofs.room_of.Reads as room_of
use Rattle.messages.proofs.lay.Kinds as lay-kinds
use Rattle.messages.proofs.lay.Reads as lay

pub no-cast-only : OneResult 0 no-cast-kinds.ps no-cast-kinds.r no-cast.Post
no-cast-only κs a x y e f p q = p ∙ sym q

pub no-sends-only : OneResult 0 no-sends-kinds.ps no-sends-kinds.r no-sends.Post
no-sends-only κs a x y e f p q = p ∙ sym q

pub room-of-only : OneResult 3 room-of-kinds.ps room-of-kinds.r room_of.Post
room-of-only κs a x y e f p q = p ∙ sym q

pub lay-only :
    OneOutcome 3 lay-kinds.ps lay-kinds.r {A = Area}
    (λ κs e. record { receivers = e.1.0.now; kinds = e.1.1.0.now; values = e.1.1.1.0.now })
    lay.Post
lay-only κs a x y e f p q = (ap (λ (l : Laid). l.count) (p ∙ sym q), ap (λ (l : Laid). l.area) (p ∙ sym q))
