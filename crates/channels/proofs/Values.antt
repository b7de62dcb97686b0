-- The values of WRITEs in flight: the one that joins brings its value, and the others keep theirs.
-- Assumes nothing.
use mathlib.Core.{Bool.true, List.{List, [], ◌∷◌, Memᴰ}, Logic.◌≢◌}
use mathlib.Core.Path.{◌≡◌, refl, sym, ap, subst, ◌∙◌}
use Prim.Native.Nat.{ℕ, zero, suc, ◌+◌, ◌-◌, ◌≤◌, ◌<◌}
use native.Mathlib.{Decide.{ℕ_discrete, dec_le}, Omega.arith}
use lib.ListN.{length}
use borrow.Author.Tests.{not-true}
use Rattle.basics.{proofs.Choices.ite-case, specs.Choice.ite}
use Rattle.messages.specs.{Sends.Message, Tally.tally}
use Rattle.channels.specs.{Channels.{by_kind, channel_at, value_in, room, joined, less}, Posting.{posted, post, posts}}
use Rattle.channels.specs.declared.{Channel.Channel, Posted.Posted, Row.Row}
use Rattle.channels.proofs.{ByKind.{not_at, but-write0, but-write1, kind-case}, Flying.cap-write}
use Rattle.channels.proofs.Posting.{after, Fits, First, first-of, post-case}
use Rattle.channels.proofs.Posts.{after-adds, RoomFor, posts-room, post-same, counts, counts-self}
use Rattle.channels.proofs.Rows.{channel-of-put, put-case, length-put, length-post}

-- ---- one channel

pub value-of-joined : (c : Channel) (k v : ℕ) → k < 2 → room c k ≡ true → value_in (joined c k v) k ≡ v
unfolding joined room value_in by_kind ite
value-of-joined c zero v l h = simp (not-true c.write0.full h)
value-of-joined c (suc zero) v l h = simp (not-true c.write1.full h)
value-of-joined c (suc (suc k)) v l h = absurd (omega arith)

module _ (c : Channel) (m : ℕ) where
  -- the WRITE of kind m has the value that it has in c
  abbrev Valued : Channel → Type 0
  Valued d = value_in d m ≡ value_in c m

  pub value-of-joined-ne : (k v : ℕ) → m ≢ k → Valued (joined c k v)
  unfolding joined value_in
  value-of-joined-ne k v d =
      ite-case Valued (room c k) _ _
      (λ _. kind-case Valued k
      (λ e. but-write0 _ _ _ _ _ _ (not_at d e))
      (λ e. but-write1 _ _ _ _ _ _ (not_at d e))
      (λ _. refl)
      (λ _. refl)
      (λ _. refl))
      (λ _. refl)

  pub value-of-less-ne : (k : ℕ) → m ≢ k → Valued (less c k)
  unfolding less value_in
  value-of-less-ne k d =
      kind-case Valued k
      (λ e. but-write0 _ _ _ _ _ _ (not_at d e))
      (λ e. but-write1 _ _ _ _ _ _ (not_at d e))
      (λ _. refl)
      (λ _. refl)
      (λ _. refl)

-- ---- all that is posted

-- a message to another place or of another kind
post-value-kept :
    (s : Posted) (m : Message) (l k : ℕ) → length s.row.to ≡ 7 → (m.to ≡ l + 1 → k ≢ m.kind) →
    value_in (channel_at (post s m).row l) k ≡ value_in (channel_at s.row l) k
post-value-kept s m l k whole d = by (ℕ_discrete m.to (l + 1))
  where
    As : Channel → Type 0
    As c = value_in c k ≡ value_in (channel_at s.row l) k

    by : Dec (m.to ≡ l + 1) → As (channel_at (post s m).row l)
    by (no e) = ap (λ (c : Channel). value_in c k) (post-same s m l e)
    by (yes e) =
        post-case (λ (r : Row). As (channel_at r l)) s m refl
        (λ f. put-case s.row whole As (m.to - 1) l _ (omega (arith, f.high))
        (λ p. value-of-joined-ne _ k m.kind m.value (d e) ∙ ap (λ (i : ℕ). value_in (channel_at s.row i) k) (sym p))
        refl)

-- where no such WRITE is sent
pub posts-value-kept :
    (s : Posted) (ms : List Message) (l k : ℕ) → length s.row.to ≡ 7 → tally ms (l + 1) k ≡ 0 →
    value_in (channel_at (posts s ms).row l) k ≡ value_in (channel_at s.row l) k
unfolding posts tally
posts-value-kept s [] l k whole h = refl
posts-value-kept s (m ∷ ms) l k whole h =
    posts-value-kept (post s m) ms l k (length-post s m ∙ whole) (omega arith)
    ∙ post-value-kept s m l k whole (λ e p. omega (arith, subst (λ (x : ℕ). counts m l x ≡ 1) (sym p) (counts-self m l e)))

-- no second WRITE of its kind finds room
none_more :
    (r : Row) (m : Message) (ms : List Message) → length r.to ≡ 7 → Fits r m → RoomFor (after r m) ms → m.kind < 2 →
    tally ms (m.to - 1 + 1) m.kind ≡ 0
none_more r m ms whole f rest w = by (dec_le 1 (tally ms (m.to - 1 + 1) m.kind))
  where
    at : m.to ≡ m.to - 1 + 1
    at = omega (arith, f.low)

    by : Dec (1 ≤ tally ms (m.to - 1 + 1) m.kind) → tally ms (m.to - 1 + 1) m.kind ≡ 0
    by (yes y) =
        absurd
        (omega (
          arith,
          rest.spare (m.to - 1) m.kind (omega (arith, f.low, f.high)) (omega arith) y,
          after-adds r whole m f (m.to - 1) m.kind,
          counts-self m (m.to - 1) at,
          cap-write w,
        ))
    by (no y) = omega arith

first-value :
    (r : Row) (m : Message) (ms : List Message) → length r.to ≡ 7 → (posts (posted true r) (m ∷ ms)).fits ≡ true → m.kind < 2 →
    value_in (channel_at (posts (posted true r) (m ∷ ms)).row (m.to - 1)) m.kind ≡ m.value
first-value r m ms whole h w =
    let o : First r m ms = first-of r m ms h in
    let f : Fits r m = o.fit in
    let rest : RoomFor (after r m) ms = posts-room (after r m) ms (length-put r _ _ ∙ whole) o.rest in
    ap (λ (s : Posted). value_in (channel_at s.row (m.to - 1)) m.kind) o.next
    ∙ posts-value-kept (posted true (after r m)) ms (m.to - 1) m.kind (length-put r _ _ ∙ whole) (none_more r m ms whole f rest w)
    ∙ ap (λ (c : Channel). value_in c m.kind) (channel-of-put r whole (m.to - 1) _ (omega (arith, f.low, f.high)))
    ∙ value-of-joined (channel_at r (m.to - 1)) m.kind m.value w f.space

-- and where one is sent, it is there with its value
pub posts-value :
    (m : Message) (r : Row) {ms : List Message} → length r.to ≡ 7 → (posts (posted true r) ms).fits ≡ true → Memᴰ m ms → m.kind < 2 →
    value_in (channel_at (posts (posted true r) ms).row (m.to - 1)) m.kind ≡ m.value
posts-value m r whole h (Memᴰ.head {x = x} {xs = ms} e) w =
    subst (λ (y : Message). y.kind < 2 → value_in (channel_at (posts (posted true r) (x ∷ ms)).row (y.to - 1)) y.kind ≡ y.value) (sym e)
    (first-value r x ms whole h) w
posts-value m r whole h (Memᴰ.tail {x = x} {xs = ms} t) w =
    let o : First r x ms = first-of r x ms h in
    ap (λ (s : Posted). value_in (channel_at s.row (m.to - 1)) m.kind) o.next
    ∙ posts-value m (after r x) (length-put r _ _ ∙ whole) o.rest t w
