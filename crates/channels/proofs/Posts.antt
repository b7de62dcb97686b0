-- What posting a list of messages does to a row: what was in flight and what was sent add up (`posts-adds`), all find room exactly
-- when there is room for each (`posts-fit-iff`), and a channel to which nothing goes stays as it was (`posts-same`).
-- Assumes nothing.
use mathlib.Core.{Bool.{Bool, true, false}, List.{List, [], ◌∷◌}, Logic.{◌↔◌, ◌≢◌}, Path.{◌≡◌, refl, sym, ap, ap₂, subst₂, ◌∙◌}}
use Prim.Native.Nat.{ℕ, ◌+◌, ◌-◌, ◌≤◌, ◌<◌}
use native.Mathlib.{Decide.{ℕ_discrete, dec_le}, Nat.add-zero, Omega.arith}
use lib.{Dec.eqb, ListN.length}
use borrow.Author.Tests.{eqb-true, eq-eqb, ne_eqb}
use Rattle.basics.{proofs.Choices.{both_left, both_right, both-false-left}, proofs.Ones.{nought, one-most, one_same}, specs.Below.one_if}
use Rattle.basics.specs.Choice.{both}
use Rattle.messages.specs.{Sends.Message, Tally.tally}
use Rattle.channels.specs.{Channels.{channel_at, in_flight}, Posting.{posted, post, posts}, declared.Channel.Channel}
use Rattle.channels.specs.declared.{Posted.Posted, Row.Row}
use Rattle.channels.proofs.{Flying.{cap, room-iff, joined-adds}, Posting.{after, Fits, First, first-of, posts-next, post-case}}
use Rattle.channels.proofs.Rows.{channel-of-put, channel-of-put-ne, length-put}

-- ---- one message

-- m is to place l and of kind k
abbrev pub counts : Message → ℕ → ℕ → ℕ
counts m l k = one_if (both (eqb m.to (l + 1)) (eqb m.kind k))

eqb-either : (a b : ℕ) → eqb a b ≡ eqb b a
eqb-either a b = by (ℕ_discrete a b)
  where
    by : Dec (a ≡ b) → eqb a b ≡ eqb b a
    by (yes e) = eq-eqb a b e ∙ sym (eq-eqb b a (sym e))
    by (no d) = ne_eqb a b d ∙ sym (ne_eqb b a (λ e. d (sym e)))

counts-few : (m : Message) (l k : ℕ) → counts m l k ≤ 1
counts-few m l k = one-most (both (eqb m.to (l + 1)) (eqb m.kind k))

counts-there : (m : Message) (l k : ℕ) → m.to ≡ l + 1 → counts m l k ≡ one_if (eqb k m.kind)
unfolding both
counts-there m l k e = rw (eq-eqb m.to (l + 1) e) (ap one_if (eqb-either m.kind k))

counts-elsewhere : (m : Message) (l k : ℕ) → m.to ≢ l + 1 → counts m l k ≡ 0
counts-elsewhere m l k d = ap one_if (both-false-left _ (ne_eqb _ _ d)) ∙ nought

module _ (r : Row) (whole : length r.to ≡ 7) (m : Message) (f : Fits r m) where
  -- it is in flight, and nothing else changed
  pub after-adds : (l k : ℕ) → in_flight (channel_at (after r m) l) k ≡ in_flight (channel_at r l) k + counts m l k
  after-adds l k = by (ℕ_discrete m.to (l + 1))
    where
      by : Dec (m.to ≡ l + 1) → in_flight (channel_at (after r m) l) k ≡ in_flight (channel_at r l) k + counts m l k
      by (yes e) =
          let p : l ≡ m.to - 1 = omega arith in
          ap (λ (i : ℕ). in_flight (channel_at (after r m) i) k) p
          ∙ ap (λ (c : Channel). in_flight c k) (channel-of-put r whole (m.to - 1) _ (omega (arith, f.low, f.high)))
          ∙ joined-adds (channel_at r (m.to - 1)) k m.kind m.value f.space
          ∙ ap₂ (λ (i x : ℕ). in_flight (channel_at r i) k + x) (sym p) (sym (counts-there m l k e))
      by (no d) =
          ap (λ (c : Channel). in_flight c k) (channel-of-put-ne r (m.to - 1) l _ (λ (e : l ≡ m.to - 1). d (omega (arith, f.low))))
          ∙ sym (ap (λ (x : ℕ). in_flight (channel_at r l) k + x) (counts-elsewhere m l k d) ∙ add-zero _)

-- ---- all messages

regroup : (a b c d : ℕ) → a ≡ b + c → a + d ≡ b + (c + d)
regroup a b c d e = omega arith

-- what was in flight and what was sent add up
pub posts-adds :
    (r : Row) (ms : List Message) → length r.to ≡ 7 → (posts (posted true r) ms).fits ≡ true → (l k : ℕ) →
    in_flight (channel_at (posts (posted true r) ms).row l) k ≡ in_flight (channel_at r l) k + tally ms (l + 1) k
unfolding posts tally
posts-adds r [] whole h l k = sym (add-zero _)
posts-adds r (m ∷ ms) whole h l k =
    let o : First r m ms = first-of r m ms h in
    ap (λ (s : Posted). in_flight (channel_at s.row l) k) o.next
    ∙ posts-adds (after r m) ms (length-put r _ _ ∙ whole) o.rest l k
    ∙ regroup _ _ _ (tally ms (l + 1) k) (after-adds r whole m o.fit l k)

-- ---- room for all

-- each goes to one of the seven places and is of a kind of the wire
pub data Sound : List Message → Type 0 where
  none : Sound []
  more : {m : Message} {ms : List Message} → 1 ≤ m.to → m.to ≤ 7 → m.kind < 4 → Sound ms → Sound (m ∷ ms)

-- where something is sent, there is room for all that is sent
pub record RoomFor (r : Row) (ms : List Message) : Type 0 where
  pub spare : (l k : ℕ) → l < 7 → k < 4 → 1 ≤ tally ms (l + 1) k → in_flight (channel_at r l) k + tally ms (l + 1) k ≤ cap k

pub counts-self : (m : Message) (l : ℕ) → m.to ≡ l + 1 → counts m l m.kind ≡ 1
counts-self m l e = counts-there m l m.kind e ∙ one_same {m = m.kind} refl

counts-only : (m : Message) (l k : ℕ) → 1 ≤ counts m l k → (m.to ≡ l + 1) × (m.kind ≡ k)
counts-only m l k = by (both (eqb m.to (l + 1)) (eqb m.kind k)) refl
  where
    by : (b : Bool) → both (eqb m.to (l + 1)) (eqb m.kind k) ≡ b → 1 ≤ one_if b → (m.to ≡ l + 1) × (m.kind ≡ k)
    by true e h = (eqb-true _ _ (both_left _ _ e), eqb-true _ _ (both_right _ _ e))
    by false e h = absurd (omega (arith, nought))

pub posts-fit : (r : Row) {ms : List Message} → length r.to ≡ 7 → Sound ms → RoomFor r ms → (posts (posted true r) ms).fits ≡ true
unfolding posts tally
posts-fit r whole none h = refl
posts-fit r whole (more {m = m} {ms = ms} low high kind s) h =
    let e : m.to ≡ m.to - 1 + 1 = omega arith in
    let o : counts m (m.to - 1) m.kind ≡ 1 = counts-self m (m.to - 1) e in
    let x : in_flight (channel_at r (m.to - 1)) m.kind < cap m.kind =
    omega (arith, h.spare (m.to - 1) m.kind (omega arith) kind (omega arith)) in
    let f : Fits r m = record { low = low; high = high; space = (room-iff (channel_at r (m.to - 1)) m.kind).1 (kind, x) } in
    ap (λ (t : Posted). t.fits) (posts-next r m ms f)
    ∙ posts-fit (after r m) (length-put r _ _ ∙ whole) s
    (record { spare = λ l k hl hk z. omega (arith, after-adds r whole m f l k, h.spare l k hl hk (omega arith)) })

-- ---- and only then

posts-sound : (r : Row) (ms : List Message) → (posts (posted true r) ms).fits ≡ true → Sound ms
posts-sound r [] h = none
posts-sound r (m ∷ ms) h =
    let o : First r m ms = first-of r m ms h in
    more o.fit.low o.fit.high ((room-iff _ _).0 o.fit.space).0 (posts-sound (after r m) ms o.rest)

pub posts-room : (r : Row) (ms : List Message) → length r.to ≡ 7 → (posts (posted true r) ms).fits ≡ true → RoomFor r ms
unfolding tally
posts-room r [] whole h = record { spare = λ l k hl hk z. absurd (omega arith) }
posts-room r (m ∷ ms) whole h =
    let o : First r m ms = first-of r m ms h in
    with_rest o.fit (posts-room (after r m) ms (length-put r _ _ ∙ whole) o.rest)
  where
    last : Fits r m → (l k : ℕ) → 1 ≤ counts m l k → in_flight (channel_at r l) k < cap k
    last f l k z =
        let c = counts-only m l k z in
        let e : m.to - 1 ≡ l = omega arith in
        subst₂ (λ (i j : ℕ). in_flight (channel_at r i) j < cap j) e c.1 ((room-iff _ _).0 f.space).1

    with_rest : Fits r m → RoomFor (after r m) ms → RoomFor r (m ∷ ms)
    with_rest f rest = record { spare = λ l k hl hk z. by l k hl hk z (dec_le 1 (tally ms (l + 1) k)) }
      where
        by :
            (l k : ℕ) → l < 7 → k < 4 → 1 ≤ tally (m ∷ ms) (l + 1) k → Dec (1 ≤ tally ms (l + 1) k) →
            in_flight (channel_at r l) k + tally (m ∷ ms) (l + 1) k ≤ cap k
        by l k hl hk z (yes y) = omega (arith, after-adds r whole m f l k, rest.spare l k hl hk y)
        by l k hl hk z (no y) = omega (arith, last f l k (omega arith), counts-few m l k)

-- all find room exactly when there is room for each: what refusal 14 asks
pub posts-fit-iff : (r : Row) (ms : List Message) → length r.to ≡ 7 → ((posts (posted true r) ms).fits ≡ true) ↔ (Sound ms × RoomFor r ms)
posts-fit-iff r ms whole = (λ h. (posts-sound r ms h, posts-room r ms whole h), λ h. posts-fit r whole h.0 h.1)

-- ---- where nothing goes

pub post-same : (s : Posted) (m : Message) (l : ℕ) → m.to ≢ l + 1 → channel_at (post s m).row l ≡ channel_at s.row l
post-same s m l d =
    post-case (λ (r : Row). channel_at r l ≡ channel_at s.row l) s m refl
    (λ f. channel-of-put-ne s.row (m.to - 1) l _ (λ (p : l ≡ m.to - 1). d (omega (arith, f.low))))

-- a channel to which nothing goes stays as it was, whether or not all find room
pub posts-same :
    (s : Posted) (ms : List Message) (l : ℕ) → ((k : ℕ) → tally ms (l + 1) k ≡ 0) → channel_at (posts s ms).row l ≡ channel_at s.row l
unfolding posts tally
posts-same s [] l h = refl
posts-same s (m ∷ ms) l h =
    posts-same (post s m) ms l (λ k. omega (arith, h k))
    ∙ post-same s m l (λ (e : m.to ≡ l + 1). omega (arith, h m.kind, counts-self m l e))
