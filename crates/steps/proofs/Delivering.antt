-- What an accepted delivery does in numbers: the message is gone, the panel that it came to does what its promise says, what it sends is
-- in flight, and all else stays.
-- Assumes nothing.
use mathlib.Core.{Logic.◌≢◌, Path.{◌≡◌, refl, sym, ap, ap₂, ◌∙◌}}
use Prim.Native.Nat.{ℕ, ◌+◌, ◌-◌, ◌<◌}
use native.Mathlib.{Decide.ℕ_discrete, Omega.arith}
use lib.Dec.{eqb}
use Rattle.basics.{proofs.Ones.{one_same, nought-apart}, specs.Below.one_if}
use Rattle.panel.specs.{Calls.after, declared.Next.Next}
use Rattle.protocol.specs.World.{World, Out, Starts, Delivers}
use Rattle.promise.specs.View.{code_of}
use Rattle.channels.proofs.{Flying.{has-known, less-takes}, Rows.{channel-of-taken, channel-of-taken-ne}}
use Rattle.channels.specs.{Channels.{channel_at, in_flight, less}, Posting.taken, declared.Channel.Channel, declared.Row.Row}
use Rattle.house.{proofs.Stores.{row-with-row, row-with-row-ne}, specs.Places.{panel_at, row_at, channel_of, n_of, with_row}}
use Rattle.house.specs.declared.Network.{Network}
use Rattle.steps.specs.{Moves.{arriving, deliver_out, Came}, Numbers.world_of, Steps.{deliver_trials, deliver_in}}
use Rattle.steps.proofs.{Arriving.message-came, Keeping.taken-kept, Moves.{done-starts, done-panel, done-answer, done-code}}
use Rattle.steps.proofs.Networks.{Good, at_place, place-seven}
use Rattle.steps.proofs.{Passing.{sender-place, receiver-place, places-apart, MayDeliver, may-deliver}, Settling.{Done, step-done}}

-- ---- the message is taken

-- the network without the message
abbrev pub without : Network → ℕ → ℕ → ℕ → Network
without s k i j = with_row s (i - 1) (taken (row_at s (i - 1)) (j - 1) k)

module _ (s : Network) (g : Good s) (k i j : ℕ) (m : MayDeliver s k i j) where
  abbrev q : ℕ
  q = i - 1

  abbrev p : ℕ
  p = j - 1

  q-seven : q < 7
  q-seven = place-seven s g q (sender-place m.pair)

  p-seven : p < 7
  p-seven = place-seven s g p (receiver-place m.pair)

  abbrev here : ℕ → ℕ → Row → ℕ
  here l x r = in_flight (channel_at r l) x

  -- in the message's own row, and in the others
  row-less : row_at (without s k i j) q ≡ taken (row_at s q) p k
  row-less = row-with-row s g.whole q q-seven _

  pub row_other : (l : ℕ) → l ≢ q → row_at (without s k i j) l ≡ row_at s l
  row_other l d = row-with-row-ne s q l _ d

  less-at : (x : ℕ) → in_flight (channel_of (without s k i j) q p) x + one_if (eqb x k) ≡ in_flight (channel_of s q p) x
  less-at x =
      let c : channel_of (without s k i j) q p ≡ less (channel_of s q p) k
      = ap (λ (r : Row). channel_at r p) row-less ∙ channel-of-taken (row_at s q) (g.whole.row_long q q-seven) p k p-seven in
      ap (λ (d : Channel). in_flight d x + one_if (eqb x k)) c ∙ less-takes (channel_of s q p) x k m.there

  less-else : (a l x : ℕ) → (a ≡ q → l ≡ p → x ≢ k) → in_flight (channel_of (without s k i j) a l) x ≡ in_flight (channel_of s a l) x
  less-else a l x other = by (ℕ_discrete a q) (ℕ_discrete l p)
    where
      by : Dec (a ≡ q) → Dec (l ≡ p) → in_flight (channel_of (without s k i j) a l) x ≡ in_flight (channel_of s a l) x
      by (no d) f = ap (here l x) (row_other a d)
      by (yes e) (no d) =
          ap (λ (y : ℕ). in_flight (channel_of (without s k i j) y l) x) e
          ∙ ap (here l x) row-less
          ∙ ap (λ (c : Channel). in_flight c x) (channel-of-taken-ne (row_at s q) p k l d)
          ∙ ap (λ (y : ℕ). in_flight (channel_of s y l) x) (sym e)
      by (yes e) (yes f) =
          ap₂ (λ (y z : ℕ). in_flight (channel_of (without s k i j) y z) x) e f
          ∙ omega (arith, less-at x, nought-apart (other e f))
          ∙ ap₂ (λ (y z : ℕ). in_flight (channel_of s y z) x) (sym e) (sym f)

-- ---- and its receiver acts

pub record DeliverMoves (s : Network) (k i j : ℕ) : Type 0 where
  pub may : MayDeliver s k i j
  pub answered : (deliver_in s k i j).answer ≡ (after (panel_at s (j - 1)) (arriving s k i j)).answer
  pub delivers : Delivers (i - 1) (j - 1) k (deliver_out s k i j) (world_of s) (world_of (deliver_in s k i j).network)
  pub came :
      Came (n_of s) (j - 1) (i - 1) k ((world_of s).panel (j - 1)) (deliver_out s k i j) ((world_of (deliver_in s k i j).network).panel (j - 1))

-- what is taken and what its receiver sends
both-moved :
    (s : Network) → Good s → (k i j : ℕ) → MayDeliver s k i j → (out : Out) (s' : World) → Starts (j - 1) out (world_of (without s k i j)) s' →
    Delivers (i - 1) (j - 1) k out (world_of s) s'
both-moved s g k i j m out s' h =
    let d : i - 1 ≢ j - 1 = places-apart m.pair in
    record {
      others = h.others;
      sent = λ l x. h.sent l x ∙ ap (λ (y : ℕ). y + out l x) (less-else s g k i j m (j - 1) l x (λ e. absurd (d (sym e))));
      gone = omega (arith, h.flown (i - 1) (j - 1) k d, less-at s g k i j m k, one_same {m = k} refl);
      flown = λ a l x e other. h.flown a l x e ∙ less-else s g k i j m a l x other;
    }

pub deliver-moves : (s : Network) → Good s → (k i j : ℕ) → code_of (deliver_in s k i j).answer ≡ 0 → DeliverMoves s k i j
unfolding deliver_in
deliver-moves s g k i j ok =
    let p : ℕ = j - 1 in
    let s₁ : Network = without s k i j in
    let q : Next = after (panel_at s p) (arriving s k i j) in
    let d : Done (deliver_trials s k i j) s₁ p q (deliver_in s k i j) = step-done (deliver_trials s k i j) s s₁ p q ok in
    let m : MayDeliver s k i j = (may-deliver s k i j).0 d.trials in
    let within : p < n_of s = receiver-place m.pair in
    let g₁ : Good s₁ = (taken-kept s g (i - 1) p k (q-seven s g k i j m)).good in
    record {
      may = m;
      answered = done-answer s₁ g₁ p within q d;
      delivers = both-moved s g k i j m (deliver_out s k i j) _ (done-starts s₁ g₁ p within q d);
      came = done-panel s₁ g₁ p within q d (Came (n_of s) p (i - 1) k ((world_of s).panel p) (deliver_out s k i j))
          (message-came (n_of s) p (panel_at s p) (at_place s g p within) k i _ (has-known _ k m.there) (done-code s₁ p (arriving s k i j) d));
    }
