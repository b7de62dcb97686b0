-- A row in form, as plain facts: what its test says, both ways, and that form is kept where a message is taken and where an event's
-- messages are posted.
-- Assumes nothing.
use mathlib.Core.{Bool.{Bool, true, false, not}, List.{List, [], ◌∷◌}, Logic.{◌↔◌, ◌≢◌}, Path.{◌≡◌, refl, sym, ap, subst, ◌∙◌}}
use Prim.Native.Nat.{ℕ, ◌+◌, ◌-◌, ◌≤◌, ◌<◌}
use native.Mathlib.{Decide.{ℕ_discrete, dec_lt}, Omega.arith}
use lib.ListN.{length}
use borrow.Author.Tests.{eq-eqb, ne_eqb, lt-ltb, le-ltb}
use Rattle.basics.proofs.{Below.{all-at, all_of}, Choices.{clash, ite-false, ite-case, both_true, both-false-left, both-false-right}}
use Rattle.messages.specs.{Sends.Message, Tally.tally}
use Rattle.channels.specs.Channels.{in_flight, channel_at, no_channel, less, leads, row_place_ok, row_ok, empty_row}
use Rattle.channels.specs.{Posting.{with_channel, post, posts, taken}, declared.Channel.Channel, declared.Posted.Posted}
use Rattle.channels.specs.declared.Row.{Row}
use Rattle.channels.proofs.ChannelForm.{ChannelForm, channel_ok-iff, channel_empty-iff, none-form, form-within, joined-form, less-form, less_none}
use Rattle.channels.proofs.{Flying.cap, Posting.post-case, Posts.posts-same}
use Rattle.channels.proofs.Rows.{put-case, channel-past, channel-of-empty, length-post}

-- ---- where a channel leads

pub leads-other : (n i j : ℕ) → i < n → j < n → i ≢ j → leads n i j ≡ true
unfolding leads
leads-other n i j a b d = both_true (lt-ltb _ _ a) (both_true (lt-ltb _ _ b) (ap not (ne_eqb _ _ d)))

pub leads-own : (n i : ℕ) → leads n i i ≡ false
unfolding leads
leads-own n i = both-false-right _ (both-false-right _ (ap not (eq-eqb i i refl)))

pub leads-past : (n i j : ℕ) → n ≤ j → leads n i j ≡ false
unfolding leads
leads-past n i j h = both-false-right _ (both-false-left _ (le-ltb _ _ h))

pub leads-outside : (n i j : ℕ) → n ≤ i → leads n i j ≡ false
unfolding leads
leads-outside n i j h = both-false-left _ (le-ltb _ _ h)

-- ---- the test

pub record RowForm (r : Row) (n i : ℕ) : Type 0 where
  pub formed : (j : ℕ) → j < 7 → ChannelForm (channel_at r j)
  pub own : i < 7 → channel_at r i ≡ no_channel
  pub past : (j : ℕ) → j < 7 → n ≤ j → channel_at r j ≡ no_channel
  -- nothing leaves a place that is no panel's
  pub outside : (j : ℕ) → j < 7 → n ≤ i → channel_at r j ≡ no_channel

module _ (r : Row) (n i : ℕ) where
  place-unused : (j : ℕ) → row_place_ok r n i j ≡ true → leads n i j ≡ false → channel_at r j ≡ no_channel
  unfolding row_place_ok
  place-unused j e h = (channel_empty-iff _).0 (sym (ite-false _ _ h) ∙ e)

  place-formed : (j : ℕ) → row_place_ok r n i j ≡ true → ChannelForm (channel_at r j)
  unfolding row_place_ok
  place-formed j =
      ite-case (λ (b : Bool). b ≡ true → ChannelForm (channel_at r j)) (leads n i j) _ _
      (λ _ e. (channel_ok-iff _).0 e)
      (λ _ e. subst ChannelForm (sym ((channel_empty-iff _).0 e)) none-form)

  row-formed : row_ok r n i ≡ true → RowForm r n i
  unfolding row_ok
  row-formed e =
      record {
        formed = λ j h. place-formed j (each j h);
        own = λ h. place-unused i (each i h) (leads-own n i);
        past = λ j h b. place-unused j (each j h) (leads-past n i j b);
        outside = λ j h a. place-unused j (each j h) (leads-outside n i j a);
      }
    where
      each : (j : ℕ) → j < 7 → row_place_ok r n i j ≡ true
      each = all-at 7 (row_place_ok r n i) e

  place_ok : RowForm r n i → (j : ℕ) → j < 7 → row_place_ok r n i j ≡ true
  unfolding row_place_ok
  place_ok f j h =
      ite-case (λ (b : Bool). b ≡ true) (leads n i j) _ _ (λ _. (channel_ok-iff _).1 (f.formed j h)) (λ e. (channel_empty-iff _).1 (unused e))
    where
      other : i < n → j < n → Dec (i ≡ j) → leads n i j ≡ false → channel_at r j ≡ no_channel
      other a b (yes p) e = ap (channel_at r) (sym p) ∙ f.own (omega arith)
      other a b (no d) e = clash e (leads-other n i j a b d)

      receiver : i < n → Dec (j < n) → leads n i j ≡ false → channel_at r j ≡ no_channel
      receiver a (yes b) = other a b (ℕ_discrete i j)
      receiver a (no b) = λ _. f.past j h (omega arith)

      sender : Dec (i < n) → leads n i j ≡ false → channel_at r j ≡ no_channel
      sender (yes a) = receiver a (dec_lt j n)
      sender (no a) = λ _. f.outside j h (omega arith)

      unused : leads n i j ≡ false → channel_at r j ≡ no_channel
      unused = sender (dec_lt i n)

  pub row_ok-iff : (row_ok r n i ≡ true) ↔ RowForm r n i
  unfolding row_ok
  row_ok-iff = (row-formed, λ f. all_of 7 (row_place_ok r n i) (place_ok f))

-- of a whole row that is in form, whatever the place
module _ (r : Row) (n i : ℕ) (whole : length r.to ≡ 7) (e : row_ok r n i ≡ true) where
  -- what holds of the seven places and of an empty channel holds everywhere
  everywhere : (P : Channel → Type 0) (j : ℕ) → P no_channel → (j < 7 → P (channel_at r j)) → P (channel_at r j)
  everywhere P j none near = by (dec_lt j 7)
    where
      by : Dec (j < 7) → P (channel_at r j)
      by (yes h) = near h
      by (no h) = subst P (sym (channel-past r whole j (omega arith))) none

  pub row-own : channel_at r i ≡ no_channel
  row-own = everywhere (λ (c : Channel). c ≡ no_channel) i refl (λ h. ((row_ok-iff r n i).0 e).own h)

  pub row_within : (j k : ℕ) → in_flight (channel_at r j) k ≤ cap k
  row_within j k = form-within _ (everywhere ChannelForm j none-form (λ h. ((row_ok-iff r n i).0 e).formed j h)) k

pub empty-row-ok : (n i : ℕ) → row_ok empty_row n i ≡ true
empty-row-ok n i = (row_ok-iff empty_row n i).1 (record {
  formed = λ j h. subst ChannelForm (sym (channel-of-empty j)) none-form;
  own = λ h. channel-of-empty i;
  past = λ j h b. channel-of-empty j;
  outside = λ j h a. channel-of-empty j;
})

-- ---- form is kept

form-at : (r : Row) {l j : ℕ} → l ≡ j → ChannelForm (channel_at r l) → ChannelForm (channel_at r j)
form-at r e f = subst (λ (k : ℕ). ChannelForm (channel_at r k)) e f

-- a channel changed so that form is kept and nothing comes into an empty one
changed-form :
    (r : Row) (n i j : ℕ) (c : Channel) → length r.to ≡ 7 → RowForm r n i →
    (ChannelForm (channel_at r j) → ChannelForm c) → (channel_at r j ≡ no_channel → c ≡ no_channel) → RowForm (with_channel r j c) n i
changed-form r n i j c whole f keep none =
    record {
      formed = λ l h. put-case r whole ChannelForm j l c h (λ e. keep (form-at r e (f.formed l h))) (f.formed l h);
      own = λ h. empty i h (f.own h);
      past = λ l h b. empty l h (f.past l h b);
      outside = λ l h a. empty l h (f.outside l h a);
    }
  where
    empty : (l : ℕ) → l < 7 → channel_at r l ≡ no_channel → channel_at (with_channel r j c) l ≡ no_channel
    empty l h z = put-case r whole (λ (d : Channel). d ≡ no_channel) j l c h (λ e. none (ap (channel_at r) (sym e) ∙ z)) z

pub taken-ok : (r : Row) (n i j k : ℕ) → length r.to ≡ 7 → row_ok r n i ≡ true → row_ok (taken r j k) n i ≡ true
unfolding taken
taken-ok r n i j k whole h =
    (row_ok-iff _ n i).1
    (changed-form r n i j _ whole ((row_ok-iff r n i).0 h) (λ f. less-form _ f k) (λ e. ap (λ (c : Channel). less c k) e ∙ less_none k))

post-form :
    (s : Posted) (m : Message) (l : ℕ) → length s.row.to ≡ 7 → l < 7 → ChannelForm (channel_at s.row l) →
    ChannelForm (channel_at (post s m).row l)
post-form s m l whole h f =
    post-case (λ (r : Row). ChannelForm (channel_at r l)) s m f
    (λ _. put-case s.row whole ChannelForm (m.to - 1) l _ h (λ e. joined-form _ (form-at s.row e f) m.kind m.value) f)

posts-form :
    (s : Posted) (ms : List Message) (l : ℕ) → length s.row.to ≡ 7 → l < 7 → ChannelForm (channel_at s.row l) →
    ChannelForm (channel_at (posts s ms).row l)
unfolding posts
posts-form s [] l whole h f = f
posts-form s (m ∷ ms) l whole h f = posts-form (post s m) ms l (length-post s m ∙ whole) h (post-form s m l whole h f)

-- where the messages go to other panels of the n
pub posts-ok :
    (s : Posted) (ms : List Message) (n i : ℕ) → length s.row.to ≡ 7 → i < n →
    ((l k : ℕ) → n ≤ l → tally ms (l + 1) k ≡ 0) → ((k : ℕ) → tally ms (i + 1) k ≡ 0) →
    row_ok s.row n i ≡ true → row_ok (posts s ms).row n i ≡ true
posts-ok s ms n i whole inside none-past none-own e =
    (row_ok-iff (posts s ms).row n i).1 (record {
      formed = λ j h. posts-form s ms j whole h (f.formed j h);
      own = λ h. posts-same s ms i none-own ∙ f.own h;
      past = λ j h b. posts-same s ms j (λ k. none-past j k b) ∙ f.past j h b;
      outside = λ j h a. absurd (omega arith);
    })
  where
    f : RowForm s.row n i
    f = (row_ok-iff s.row n i).0 e
