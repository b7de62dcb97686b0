-- What one event sends, put into the channels that leave its panel: what is in flight afterwards, when all finds room, and that the
-- row keeps its form.
-- Assumes nothing.
use mathlib.Core.{Bool.true, List.List, Path.◌≡◌}
use Prim.Native.Nat.{ℕ, ◌+◌, ◌≤◌, ◌<◌}
use native.Mathlib.Omega.{arith}
use lib.ListN.{length}
use Rattle.messages.specs.{Sends.{Message, messages_of}, declared.Sends.Sends}
use Rattle.channels.proofs.{Flying.cap, Posts.{posts-adds, Sound, none, more, posts-fit}, RowForm.posts-ok}
use Rattle.channels.specs.{Channels.{channel_at, in_flight, row_ok}, Posting.{posted, posted_all}, declared.Row.Row}
use Rattle.protocol.specs.Promise.{ToPeers}
use Rattle.promise.specs.{Facts.AllTo, View.out_of}
use Rattle.promise.specs.Facts as facts

-- messages to peers go to one of the seven places and are of a kind of the wire
sound : {n number : ℕ} {ms : List Message} → n ≤ 7 → AllTo n number ms → Sound ms
sound seven facts.none = none
sound seven (facts.more {m = m} t rest) = more {m = m} t.low (omega (arith, t.high)) (omega (arith, t.kind)) (sound seven rest)

module _ (r : Row) (sends : Sends) (whole : length r.to ≡ 7) where
  pub sent-adds :
      (posted_all r sends).fits ≡ true → (l k : ℕ) → in_flight (channel_at (posted_all r sends).row l) k ≡ in_flight (channel_at r l) k + out_of sends l k
  unfolding posted_all out_of
  sent-adds h l k = posts-adds r (messages_of sends) whole h l k

  pub sent-fit :
      (n number : ℕ) → n ≤ 7 → AllTo n number (messages_of sends) →
      ((l k : ℕ) → l < 7 → k < 4 → 1 ≤ out_of sends l k → in_flight (channel_at r l) k + out_of sends l k ≤ cap k) → (posted_all r sends).fits ≡ true
  unfolding posted_all out_of
  sent-fit n number seven to room = posts-fit r whole (sound seven to) (record { spare = room })

  pub sent-ok : (n i : ℕ) → i < n → ToPeers n i (out_of sends) → row_ok r n i ≡ true → row_ok (posted_all r sends).row n i ≡ true
  unfolding posted_all out_of
  sent-ok n i inside to ok = posts-ok (posted true r) (messages_of sends) n i whole inside to.past to.own ok
