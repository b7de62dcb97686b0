-- A panel takes every message that is in flight to it: 11, 12 and 13 never occur in a run from fresh.
-- Assumes nothing.
use Prim.Native.Nat.{ℕ, suc, ◌+◌, ◌-◌, ◌%◌, ◌≤◌, ◌<◌}
use mathlib.Core.{Bool.{Bool, true, false}, Path.{◌≡◌, sym, ap, subst, ◌∙◌}}
use native.Mathlib.{Decide.ℕ_discrete, Omega.arith}
use Rattle.basics.specs.Below.{one_if}
use Rattle.refusals.specs.Refusals.{Event, refusal, Event.{write_from, read_from, proceed_from}}
use Rattle.protocol.{proofs.Never.{next-written, after-next-written, hold-free, read-open, line-free}, specs.World.W}
use Rattle.promise.proofs.AtPlace.{at-write-from-accepted, at-write-held-accepted, at-read-from-accepted, at-proceed-from-accepted}
use Rattle.channels.proofs.{ByKind.kind-case, Flying.{has-iff, has-known}}
use Rattle.house.specs.{Places.{panel_at, tables_at, channel_of, n_of, writer_of}, declared.Network.Network}
use Rattle.steps.proofs.{Networks.{at_place, writer-place, formed-place}, Passing.{sender-place, receiver-place, places-apart, MayDeliver}}
use Rattle.steps.specs.{Moves.arriving, Numbers.world_of, Steps.comes}
use Rattle.runs.proofs.Holding.{Holds}

module _ (s : Network) (h : Holds s) (k i j : ℕ) (m : MayDeliver s k i j) where
  abbrev q : ℕ
  q = i - 1

  abbrev p : ℕ
  p = j - 1

  abbrev lead : ℕ
  lead = writer_of s - 1

  pub message-flies : 1 ≤ (world_of s).flying q p k
  message-flies = (has-iff (channel_of s q p) k).0 m.there

  top : W (world_of s) lead lead ≤ 200
  top = (formed-place s h.good lead (writer-place s h.good)).w_top

  -- at the writer itself, the writer's number is its own
  at-lead : (tables_at s p).writer ≡ p + 1 → W (world_of s) lead lead ≡ W (world_of s) p p
  at-lead e =
      let l : lead ≡ p = omega (arith, e, (h.good.form.member p (receiver-place m.pair)).same_writer) in
      ap (λ (x : ℕ). W (world_of s) x x) l

  -- a WRITE, of the next number or of the one after it
  write-taken : (b : Bool) (v : ℕ) → one_if b ≡ k → k < 2 → refusal (tables_at s p) 107 (write_from i b v) ≡ 0
  write-taken b v e two = by (ℕ_discrete k (W (world_of s) p q % 2))
    where
      by : Dec (k ≡ W (world_of s) p q % 2) → refusal (tables_at s p) 107 (write_from i b v) ≡ 0
      by (yes f) =
          let two-on : suc (suc (W (world_of s) p q)) ≤ W (world_of s) lead lead
          = after-next-written h.inv q p (sender-place m.pair) (receiver-place m.pair) (places-apart m.pair) k message-flies f in
          at-write-held-accepted (n_of s) p (panel_at s p) (at_place s h.good p (receiver-place m.pair)) i m.pair.sender-low m.pair.sender-high
          (places-apart m.pair) b v (e ∙ f) (omega (arith, two-on, top)) (λ w. omega (arith, two-on, at-lead w))
          (hold-free h.inv q p (sender-place m.pair) (receiver-place m.pair) (places-apart m.pair) k message-flies f)
      by (no d) =
          let f : k ≡ suc (W (world_of s) p q) % 2 = omega (arith, two, d) in
          let one_on : suc (W (world_of s) p q) ≤ W (world_of s) lead lead
          = next-written h.inv q p (sender-place m.pair) (receiver-place m.pair) (places-apart m.pair) k message-flies f in
          at-write-from-accepted (n_of s) p (panel_at s p) (at_place s h.good p (receiver-place m.pair)) i m.pair.sender-low m.pair.sender-high
          (places-apart m.pair) b v (e ∙ f) (omega (arith, one_on, top)) (λ w. omega (arith, one_on, at-lead w))

  read_taken : k ≡ 2 → refusal (tables_at s p) 107 (read_from i) ≡ 0
  read_taken e =
      at-read-from-accepted (n_of s) p (panel_at s p) (at_place s h.good p (receiver-place m.pair)) i m.pair.sender-low m.pair.sender-high
      (places-apart m.pair)
      (line-free h.inv q p (sender-place m.pair) (receiver-place m.pair) (places-apart m.pair)
      (subst (λ (x : ℕ). 1 ≤ (world_of s).flying q p x) e message-flies) (formed-place s h.good q (sender-place m.pair)).r_top)

  proceed-taken : k ≡ 3 → refusal (tables_at s p) 107 (proceed_from i) ≡ 0
  proceed-taken e =
      at-proceed-from-accepted (n_of s) p (panel_at s p) (at_place s h.good p (receiver-place m.pair)) i m.pair.sender-low m.pair.sender-high
      (places-apart m.pair)
      (read-open h.inv q p (sender-place m.pair) (receiver-place m.pair) (places-apart m.pair) (subst (λ (x : ℕ). 1 ≤ (world_of s).flying q p x) e message-flies))

  pub message-taken : refusal (tables_at s p) 107 (arriving s k i j) ≡ 0
  unfolding comes one_if
  message-taken =
      kind-case (λ (e : Event). refusal (tables_at s p) 107 e ≡ 0) k
      (λ e. write-taken false _ (sym e) (omega arith))
      (λ e. write-taken true _ (sym e) (omega arith))
      read_taken proceed-taken
      (λ (e : 3 < k). absurd (omega (arith, has-known (channel_of s q p) k m.there)))
