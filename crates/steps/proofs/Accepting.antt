-- When a step of a network in form is accepted: its trials pass, the panel accepts, and all that it sends finds room.
-- Assumes nothing.
use mathlib.Core.{Bool.true, Logic.◌≢◌, Path.{◌≡◌, refl, sym, ap, subst, ◌∙◌}}
use Prim.Native.Nat.{ℕ, ◌+◌, ◌-◌, ◌≤◌, ◌<◌}
use native.Mathlib.{Decide.{ℕ_discrete, dec_lt}, Omega.arith}
use Rattle.refusals.specs.Refusals.{Event, refusal, Event.{write, read}}
use Rattle.panel.specs.Calls.{after}
use Rattle.protocol.specs.World.{Out}
use Rattle.promise.{proofs.AfterEvents.after-code, proofs.AtPlace.{At, at-peers, at-to-peers}, specs.View.{out_of, code_of}}
use Rattle.channels.{proofs.Flying.cap, specs.Posting.posted_all, specs.declared.Row.Row}
use Rattle.house.specs.{Places.{panel_at, tables_at, row_at, n_of, writer_of}, declared.Network.Network}
use Rattle.steps.specs.{Moves.{arriving, write_out, read_out, deliver_out}, Numbers.world_of}
use Rattle.steps.specs.{Steps.{write_trials, read_trials, deliver_trials, write_in, read_in, deliver_in}, declared.Stepped.Stepped}
use Rattle.steps.proofs.{Delivering.{without, row_other}, Networks.{Good, at_place, place-seven, writer-place}}
use Rattle.steps.proofs.Passing.{receiver-place, places-apart, MayWrite, may_write, MayRead, may_read, MayDeliver, may-deliver}
use Rattle.steps.proofs.{SentOut.sent-fit, Settling.{Accepts, step_is}}

-- all that the panel at place p sends to its peers finds room
pub record Room (s : Network) (p : ℕ) (out : Out) : Type 0 where
  pub spare : (l k : ℕ) → l < n_of s → l ≢ p → k < 4 → (world_of s).flying p l k + out l k ≤ cap k

-- ---- the panel at place p acts by e

module _
    (s : Network) (g : Good s) (p : ℕ) (within : p < n_of s) (e : Event) (z : refusal (tables_at s p) 107 e ≡ 0)
    (room : Room s p (out_of (after (panel_at s p) e).sends)) where
  abbrev out : Out
  out = out_of (after (panel_at s p) e).sends

  at : At (n_of s) p (tables_at s p)
  at = at_place s g p within

  fits : (posted_all (row_at s p) (after (panel_at s p) e).sends).fits ≡ true
  fits =
      sent-fit (row_at s p) (after (panel_at s p) e).sends (g.whole.row_long p (place-seven s g p within)) (n_of s) (p + 1) g.form.n-high
      (at-to-peers (n_of s) p (panel_at s p) at e) (λ l k _ four one. by l k four one (dec_lt l (n_of s)) (ℕ_discrete l p))
    where
      by : (l k : ℕ) → k < 4 → 1 ≤ out l k → Dec (l < n_of s) → Dec (l ≡ p) → (world_of s).flying p l k + out l k ≤ cap k
      by l k four one (yes b) (no d) = room.spare l k b d four
      by l k four one (no b) c = absurd (omega (arith, (at-peers (n_of s) p (panel_at s p) at e).past l k (omega arith), one))
      by l k four one (yes b) (yes c) =
          absurd (omega (arith, subst (λ (x : ℕ). out x k ≡ 0) (sym c) ((at-peers (n_of s) p (panel_at s p) at e).own k), one))

  code : code_of (after (panel_at s p) e).answer ≡ 0
  code = after-code (panel_at s p) e ∙ z

  -- in s₁, where its row is the same
  pub panel-accepts : (s₁ : Network) → row_at s₁ p ≡ row_at s p → Accepts s₁ p (after (panel_at s p) e)
  panel-accepts s₁ same =
      record { code = code; room = ap (λ (r : Row). (posted_all r (after (panel_at s p) e).sends).fits) same ∙ fits }

-- ---- the steps

module _ (s : Network) (g : Good s) where
  pub write-accepted :
      (v : ℕ) → MayWrite s → refusal (tables_at s (writer_of s - 1)) 107 (write v) ≡ 0 → Room s (writer_of s - 1) (write_out s v) →
      code_of (write_in s v).answer ≡ 0
  unfolding write_in
  write-accepted v m z room =
      let a = panel-accepts s g (writer_of s - 1) (writer-place s g) (write v) z room s refl in
      ap (λ (x : Stepped). code_of x.answer) (step_is (write_trials s) s s (writer_of s - 1) _ ((may_write s).1 m) a) ∙ a.code

  pub read-accepted :
      (i : ℕ) → MayRead s i → refusal (tables_at s (i - 1)) 107 read ≡ 0 → Room s (i - 1) (read_out s i) → code_of (read_in s i).answer ≡ 0
  unfolding read_in
  read-accepted i m z room =
      let a = panel-accepts s g (i - 1) (omega (arith, m.low, m.high)) read z room s refl in
      ap (λ (x : Stepped). code_of x.answer) (step_is (read_trials s i) s s (i - 1) _ ((may_read s i).1 m) a) ∙ a.code

  pub deliver-accepted :
      (k i j : ℕ) → MayDeliver s k i j → refusal (tables_at s (j - 1)) 107 (arriving s k i j) ≡ 0 → Room s (j - 1) (deliver_out s k i j) →
      code_of (deliver_in s k i j).answer ≡ 0
  unfolding deliver_in
  deliver-accepted k i j m z room =
      let other = row_other s g k i j m (j - 1) (λ e. places-apart m.pair (sym e)) in
      let a = panel-accepts s g (j - 1) (receiver-place m.pair) (arriving s k i j) z room (without s k i j) other in
      ap (λ (x : Stepped). code_of x.answer) (step_is (deliver_trials s k i j) s (without s k i j) (j - 1) _ ((may-deliver s k i j).1 m) a) ∙ a.code
