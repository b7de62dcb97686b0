-- All that a panel sends finds room: 14 never occurs in a run from fresh. The invariant of the world that a step would come to says so.
-- Assumes nothing.
use Prim.Native.Nat.{ℕ, ◌+◌, ◌-◌, ◌≤◌, ◌<◌}
use mathlib.Core.{Logic.◌≢◌, Path.{◌≡◌, refl, sym, subst, ◌∙◌}}
use native.Mathlib.{Decide.{ℕ_discrete, dec_lt}, Omega.arith}
use Rattle.refusals.specs.Refusals.{Event, refusal, Event.{write, read}}
use Rattle.panel.specs.Calls.{after}
use Rattle.protocol.proofs.{Room.{one-write, reads-most, proceeds-most}, WouldBe.{acting-own, would-start, lacking-panel, would-deliver}}
use Rattle.protocol.specs.{Invariant.{none, Inv}, Promise.{Writes, Reads}, World.{View, World, Out, R, Starts, Delivers}}
use Rattle.protocol.specs.Would.{acting, lacking}
use Rattle.protocol.proofs.Steps as protocol
use Rattle.promise.{proofs.AtPlace.{at-formed, at_after, at-write, at_read}, specs.View.view_of}
use Rattle.channels.{proofs.Flying.{cap, cap-write, cap-other, has-known}, specs.Channels.value_in}
use Rattle.house.specs.{Places.{panel_at, tables_at, channel_of, n_of, writer_of}, declared.Network.Network}
use Rattle.steps.proofs.{Arriving.message-came, Networks.{Good, at_place, writer-place, formed-place}}
use Rattle.steps.proofs.Passing.{sender-place, receiver-place, places-apart, MayDeliver}
use Rattle.steps.specs.{Moves.{Came, arriving, write_out, read_out, deliver_out}, Numbers.world_of}
use Rattle.runs.proofs.{Holding.{Holds, came-steps}, Taking.{message-flies, message-taken}}

-- what flies from place p, and what is sent, is no more than its channels take
abbrev pub Spare : ℕ → ℕ → World → Out → Type 0
Spare n p s out = (l m : ℕ) → l < n → l ≢ p → m < 4 → s.flying p l m + out l m ≤ cap m

spare :
    {n writer : ℕ} (p : ℕ) (s : World) {s' : World} (out : Out) → Inv n writer none s' → ((l m : ℕ) → s'.flying p l m ≡ s.flying p l m + out l m) →
    p < n → ((l : ℕ) → l < n → R s' l l ≤ 100) → Spare n p s out
spare p s {s'} out v sent bp few l m bl d four = by (dec_lt m 2) (ℕ_discrete m 2)
  where
    apart : p ≢ l
    apart e = d (sym e)

    at : (x : ℕ) → m ≡ x → s'.flying p l x ≡ s.flying p l m + out l m
    at x e = subst (λ (y : ℕ). s'.flying p l y ≡ s.flying p l m + out l m) e (sent l m)

    by : Dec (m < 2) → Dec (m ≡ 2) → s.flying p l m + out l m ≤ cap m
    by (yes two) b = omega (arith, one-write v p l bp bl apart m two, sent l m, cap-write two)
    by (no n) (yes e) = omega (arith, reads-most v p l bp bl apart, few p bp, at 2 e, cap-other {k = m} (omega arith) four)
    by (no n) (no e) =
        let three : m ≡ 3 = omega arith in
        omega (arith, proceeds-most v p l bp bl apart, few l bl, at 3 three, cap-other {k = m} (omega arith) four)

-- after an event e at place p no panel has begun more than 100 reads
module _ (s : Network) (g : Good s) (p : ℕ) (bp : p < n_of s) (e : Event) where
  abbrev then : View
  then = view_of (after (panel_at s p) e).panel.tables

  reads-few : (w : World) → ((i : ℕ) → w.panel i ≡ (world_of s).panel i) → (out : Out) (l : ℕ) → l < n_of s → R (acting w p then out) l l ≤ 100
  reads-few w same out l h = by (ℕ_discrete l p)
    where
      by : Dec (l ≡ p) → R (acting w p then out) l l ≤ 100
      by (yes f) =
          subst (λ (x : ℕ). R (acting w p then out) x x ≤ 100) (sym f)
          (subst (λ (b : View). b.r p ≤ 100) (sym (acting-own w p then out))
          (at-formed (n_of s) p (after (panel_at s p) e).panel (at_after (n_of s) p (panel_at s p) (at_place s g p bp) e)).r_top)
      by (no d) =
          subst (λ (b : View). b.r l ≤ 100) (sym ((would-start w p then out).others l d ∙ same l)) (formed-place s g l h).r_top

module _ (s : Network) (h : Holds s) where
  pub write-spare : (v : ℕ) → refusal (tables_at s (writer_of s - 1)) 107 (write v) ≡ 0 → Spare (n_of s) (writer_of s - 1) (world_of s) (write_out s v)
  write-spare v ok =
      let p : ℕ = writer_of s - 1 in
      let bp : p < n_of s = writer-place s h.good in
      let b : View = view_of (after (panel_at s p) (write v)).panel.tables in
      let w : World = acting (world_of s) p b (write_out s v) in
      let st : Starts p (write_out s v) (world_of s) w = would-start (world_of s) p b (write_out s v) in
      spare p (world_of s) (write_out s v) (protocol.write-steps h.inv st bp refl
      (subst (λ (x : View). Writes (n_of s) p ((world_of s).panel p) (write_out s v) x) (sym (acting-own (world_of s) p b (write_out s v)))
      (at-write (n_of s) p (panel_at s p) (at_place s h.good p bp) v ok))).keeps
      st.sent bp (reads-few s h.good p bp (write v) (world_of s) (λ i. refl) (write_out s v))

  pub read-spare : (i : ℕ) → i - 1 < n_of s → refusal (tables_at s (i - 1)) 107 read ≡ 0 → Spare (n_of s) (i - 1) (world_of s) (read_out s i)
  read-spare i bp ok =
      let p : ℕ = i - 1 in
      let b : View = view_of (after (panel_at s p) read).panel.tables in
      let w : World = acting (world_of s) p b (read_out s i) in
      let st : Starts p (read_out s i) (world_of s) w = would-start (world_of s) p b (read_out s i) in
      spare p (world_of s) (read_out s i) (protocol.read-steps h.inv st bp
      (subst (λ (x : View). Reads (n_of s) p ((world_of s).panel p) (read_out s i) x) (sym (acting-own (world_of s) p b (read_out s i)))
      (at_read (n_of s) p (panel_at s p) (at_place s h.good p bp) ok))).keeps
      st.sent bp (reads-few s h.good p bp read (world_of s) (λ i. refl) (read_out s i))

  pub deliver-spare : (k i j : ℕ) → MayDeliver s k i j → Spare (n_of s) (j - 1) (world_of s) (deliver_out s k i j)
  deliver-spare k i j m =
      let p : ℕ = j - 1 in
      let q : ℕ = i - 1 in
      let bp : p < n_of s = receiver-place m.pair in
      let out : Out = deliver_out s k i j in
      let b : View = view_of (after (panel_at s p) (arriving s k i j)).panel.tables in
      let l : World = lacking (world_of s) q p k in
      let w : World = acting l p b out in
      let de : Delivers q p k out (world_of s) w = would-deliver (world_of s) q p k b out (places-apart m.pair) (message-flies s h k i j m) in
      spare p (world_of s) out (came-steps
      (subst (λ (x : View). Came (n_of s) p q k ((world_of s).panel p) out x) (sym (acting-own l p b out))
      (message-came (n_of s) p (panel_at s p) (at_place s h.good p bp) k i (value_in (channel_of s q p) k) (has-known (channel_of s q p) k m.there)
      (message-taken s h k i j m)))
      h.inv de bp (sender-place m.pair) (places-apart m.pair)).keeps
      de.sent bp (reads-few s h.good p bp (arriving s k i j) l (lacking-panel (world_of s) q p k) out)
