-- The laws of a row: what stands at a place after a channel was put there or elsewhere, and that a row keeps its seven places.
-- Assumes nothing.
use mathlib.Core.{Bool.{Bool, true}, List.{List, [], ◌∷◌}, Logic.◌≢◌, Path.{◌≡◌, refl, sym, ap, subst, ◌∙◌}}
use Prim.Native.Nat.{ℕ, ◌-◌, ◌≤◌, ◌<◌}
use native.Mathlib.{Decide.ℕ_discrete, Omega.arith}
use lib.{ListN.{length, length-set, get_or-eq_default, length-replicate}, Seq.{get_or-set_same, get_or-set_other, set_out}}
use Rattle.basics.proofs.Lists.{get_or-same}
use Rattle.basics.{proofs.Below.all-next, specs.Below.all_below}
use Rattle.messages.specs.{Sends.{Message, messages_of}, declared.Sends.Sends}
use Rattle.channels.specs.Channels.{channel_at, no_channel, less, empty_row}
use Rattle.channels.specs.{Posting.{with_channel, posted, post, posts, posted_all, taken}, declared.Channel.Channel}
use Rattle.channels.specs.declared.{Posted.Posted, Row.Row}
use Rattle.channels.proofs.Posting.{post-case}

-- ---- what stands where

module _ (r : Row) where
  pub channel-of-put-ne : (j l : ℕ) (c : Channel) → l ≢ j → channel_at (with_channel r j c) l ≡ channel_at r l
  unfolding with_channel
  channel-of-put-ne j l c d = get_or-set_other r.to j l c no_channel d

  pub channel-of-taken-ne : (j k l : ℕ) → l ≢ j → channel_at (taken r j k) l ≡ channel_at r l
  unfolding taken
  channel-of-taken-ne j k l d = channel-of-put-ne j l _ d

module _ (r : Row) (whole : length r.to ≡ 7) where
  pub channel-of-put : (j : ℕ) (c : Channel) → j < 7 → channel_at (with_channel r j c) j ≡ c
  unfolding with_channel
  channel-of-put j c h = get_or-set_same r.to j c no_channel (omega arith)

  -- what holds of the channel that is put, and of the one that stood elsewhere, holds of what stands there then
  pub put-case :
      (P : Channel → Type 0) (j l : ℕ) (c : Channel) → l < 7 → (l ≡ j → P c) → P (channel_at r l) → P (channel_at (with_channel r j c) l)
  put-case P j l c h same rest = by (ℕ_discrete l j)
    where
      by : Dec (l ≡ j) → P (channel_at (with_channel r j c) l)
      by (yes e) = subst P (sym (ap (channel_at (with_channel r j c)) e ∙ channel-of-put j c (omega arith))) (same e)
      by (no d) = subst P (sym (channel-of-put-ne r j l c d)) rest

  pub channel-of-taken : (j k : ℕ) → j < 7 → channel_at (taken r j k) j ≡ less (channel_at r j) k
  unfolding taken
  channel-of-taken j k h = channel-of-put j _ h

  -- past the last place stands an empty channel, and nothing is put there
  pub channel-past : (j : ℕ) → 7 ≤ j → channel_at r j ≡ no_channel
  channel-past j h = get_or-eq_default r.to no_channel (omega arith)

  pub put-past : (j : ℕ) (c : Channel) → 7 ≤ j → with_channel r j c ≡ r
  unfolding with_channel
  put-past j c h = ap (λ (l : List Channel). record { to = l }) (set_out r.to j c (omega arith))

-- ---- seven places

pub length-empty : length empty_row.to ≡ 7
unfolding empty_row
length-empty = length-replicate 7 no_channel

pub channel-of-empty : (j : ℕ) → channel_at empty_row j ≡ no_channel
unfolding empty_row
channel-of-empty j = get_or-same 7 no_channel j

pub length-put : (r : Row) (j : ℕ) (c : Channel) → length (with_channel r j c).to ≡ length r.to
unfolding with_channel
length-put r j c = length-set r.to j c

pub length_taken : (r : Row) (j k : ℕ) → length (taken r j k).to ≡ length r.to
unfolding taken
length_taken r j k = length-put r j _

pub length-post : (s : Posted) (m : Message) → length (post s m).row.to ≡ length s.row.to
length-post s m = post-case (λ (r : Row). length r.to ≡ length s.row.to) s m refl (λ _. length-put s.row (m.to - 1) _)

pub length-posts : (s : Posted) (ms : List Message) → length (posts s ms).row.to ≡ length s.row.to
unfolding posts
length-posts s [] = refl
length-posts s (m ∷ ms) = length-posts (post s m) ms ∙ length-post s m

pub length-posted : (r : Row) (sends : Sends) → length (posted_all r sends).row.to ≡ length r.to
unfolding posted_all
length-posted r sends = length-posts (posted true r) (messages_of sends)

-- where a channel is put
pub ruleset putting = (put-past)

pub all-none : (f : ℕ → Bool) → all_below 0 f ≡ true
unfolding all_below
all-none f = refl

-- where the places are tested in turn
pub ruleset testing = (all-none, all-next)
