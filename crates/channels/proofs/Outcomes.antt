-- Each contract of this crate allows one outcome.
-- Assumes nothing.
use mathlib.Core.Path.{sym, ◌∙◌}
use Rattle.basics.specs.Outcome.{OneResult}
use Rattle.channels.proofs.has.Kinds as has-kinds
use Rattle.channels.proofs.has.Reads as has
use Rattle.channels.proofs.value_in.Kinds as value-in-kinds
use Rattle.channels.proofs.value_in.Reads as value_in
use Rattle.channels.proofs.room.Kinds as room-kinds
use Rattle.channels.proofs.room.Reads as room
use Rattle.channels.proofs.joined.Kinds as joined-kinds
use Rattle.channels.proofs.joined.Reads as joined
use Rattle.channels.proofs.less.Kinds as less-kinds
use Rattle.channels.proofs.less.Reads as less
use Rattle.channels.proofs.channel_ok.Kinds as channel-ok-kinds
use Rattle.channels.proofs.channel_ok.Reads as channel-ok
use Rattle.channels.proofs.channel_empty.Kinds as channel-empty-kinds
use Rattle.channels.proofs.channel_empty.Reads as channel-empty
use Rattle.channels.proofs.row_ok.Kinds as row-ok-kinds
use Rattle.channels.proofs.row_ok.Reads as row_ok
use Rattle.channels.proofs.empty_row.Kinds as empty-row-kinds
use Rattle.channels.proofs.empty_row.Reads as empty-row
use Rattle.channels.proofs.channel_to.Kinds as channel-to-kinds
use Rattle.channels.proofs.channel_to.Reads as channel-to
use Rattle.channels.proofs.taken.Kinds as taken-kinds
use Rattle.channels.proofs.taken.Reads as taken
use Rattle.channels.proofs.post_all.Kinds as post-all-kinds
use Rattle.channels.proofs.post_all.Reads as post-all

pub has-only : OneResult 0 has-kinds.ps has-kinds.r has.Post
has-only κs a x y e f p q = p ∙ sym q

pub value-in-only : OneResult 0 value-in-kinds.ps value-in-kinds.r value_in.Post
value-in-only κs a x y e f p q = p ∙ sym q

pub room-only : OneResult 0 room-kinds.ps room-kinds.r room.Post
room-only κs a x y e f p q = p ∙ sym q

pub joined-only : OneResult 0 joined-kinds.ps joined-kinds.r joined.Post
joined-only κs a x y e f p q = p ∙ sym q

pub less-only : OneResult 0 less-kinds.ps less-kinds.r less.Post
less-only κs a x y e f p q = p ∙ sym q

pub channel-ok-only : OneResult 0 channel-ok-kinds.ps channel-ok-kinds.r channel-ok.Post
channel-ok-only κs a x y e f p q = p ∙ sym q

pub channel-empty-only : OneResult 0 channel-empty-kinds.ps channel-empty-kinds.r channel-empty.Post
channel-empty-only κs a x y e f p q = p ∙ sym q

pub row-ok-only : OneResult 0 row-ok-kinds.ps row-ok-kinds.r row_ok.Post
row-ok-only κs a x y e f p q = p ∙ sym q

pub empty-row-only : OneResult 0 empty-row-kinds.ps empty-row-kinds.r empty-row.Post
empty-row-only κs a x y e f p q = p ∙ sym q

pub channel-to-only : OneResult 0 channel-to-kinds.ps channel-to-kinds.r channel-to.Post
channel-to-only κs a x y e f p q = p ∙ sym q

pub taken-only : OneResult 0 taken-kinds.ps taken-kinds.r taken.Post
taken-only κs a x y e f p q = p ∙ sym q

pub post-all-only : OneResult 0 post-all-kinds.ps post-all-kinds.r post-all.Post
post-all-only κs a x y e f p q = p ∙ sym q
