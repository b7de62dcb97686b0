-- What a step that passes its trials has passed, and that it passes them where that holds.
-- Assumes nothing.
use mathlib.Core.{Bool.{true, false, not}, Logic.{◌↔◌, ◌≢◌}, Path.{◌≡◌, ap, ◌∙◌}}
use Prim.Native.Nat.{ℕ, ◌+◌, ◌-◌, ◌≤◌, ◌<◌}
use native.Mathlib.Omega.{arith}
use borrow.Author.Tests.{eqb-false, ne_eqb, not-true, not-false}
use Rattle.basics.proofs.{Choices.{both_left, both_right, both_true}, Refusals.{passed, first-not, first-none}}
use Rattle.basics.specs.Refusal.{first_of}
use Rattle.form.proofs.InForm.{panel-iff}
use Rattle.channels.specs.Channels.{has}
use Rattle.house.{proofs.Searching.Pair, specs.NetForm.{may_be_down, downs}, specs.Places.{channel_of, down_at, n_of, t_of, writer_of}}
use Rattle.house.specs.declared.Network.{Network}
use Rattle.steps.specs.Steps.{is_pair, write_trials, read_trials, deliver_trials, lose_trials}

pub pair-iff : (n i j : ℕ) → (is_pair n i j ≡ true) ↔ Pair n i j
unfolding is_pair
pair-iff n i j = (
  view,
  λ p. both_true ((panel-iff n i).1 (p.sender-low, p.sender-high))
      (both_true ((panel-iff n j).1 (p.receiver-low, p.receiver-high)) (ap not (ne_eqb _ _ p.apart))),
)
  where
    view : is_pair n i j ≡ true → Pair n i j
    view e =
        let a = (panel-iff n i).0 (both_left _ _ e) in
        let b = (panel-iff n j).0 (both_left _ _ (both_right _ _ e)) in
        record {
          sender-low = a.0;
          sender-high = a.1;
          receiver-low = b.0;
          receiver-high = b.1;
          apart = eqb-false _ _ (not-true _ (both_right _ _ (both_right _ _ e)));
        }

-- the places of two different panels of n
module _ {n i j : ℕ} (p : Pair n i j) where
  pub sender-place : i - 1 < n
  sender-place = omega (arith, p.sender-low, p.sender-high)

  pub receiver-place : j - 1 < n
  receiver-place = omega (arith, p.receiver-low, p.receiver-high)

  pub places-apart : i - 1 ≢ j - 1
  places-apart e = p.apart (omega (arith, p.sender-low, p.receiver-low))

-- ---- a write

pub record MayWrite (s : Network) : Type 0 where
  pub live : down_at s (writer_of s - 1) ≡ false

pub may_write : (s : Network) → (first_of (write_trials s) ≡ 0) ↔ MayWrite s
unfolding write_trials
may_write s = (λ z. record { live = (passed (write_trials s) z).0 }, λ h. first-not _ _ h.live ∙ first-none)

-- ---- a read

pub record MayRead (s : Network) (i : ℕ) : Type 0 where
  pub low : 1 ≤ i
  pub high : i ≤ n_of s
  pub live : down_at s (i - 1) ≡ false

pub may_read : (s : Network) (i : ℕ) → (first_of (read_trials s i) ≡ 0) ↔ MayRead s i
unfolding read_trials
may_read s i = (
  λ z.
      let p = passed (read_trials s i) z in
      let b = (panel-iff (n_of s) i).0 (not-false _ p.0) in
      record { low = b.0; high = b.1; live = p.1.0 },
  λ h. first-not _ _ (ap not ((panel-iff (n_of s) i).1 (h.low, h.high))) ∙ first-not _ _ h.live ∙ first-none,
)

-- ---- a delivery

pub record MayDeliver (s : Network) (k i j : ℕ) : Type 0 where
  pub pair : Pair (n_of s) i j
  pub live : down_at s (j - 1) ≡ false
  pub there : has (channel_of s (i - 1) (j - 1)) k ≡ true

pub may-deliver : (s : Network) (k i j : ℕ) → (first_of (deliver_trials s k i j) ≡ 0) ↔ MayDeliver s k i j
unfolding deliver_trials
may-deliver s k i j = (
  λ z.
      let p = passed (deliver_trials s k i j) z in
      record { pair = (pair-iff (n_of s) i j).0 (not-false _ p.0); live = p.1.0; there = not-false _ p.1.1.0 },
  λ h.
      first-not _ _ (ap not ((pair-iff (n_of s) i j).1 h.pair))
      ∙ first-not _ _ h.live
      ∙ first-not _ _ (ap not h.there)
      ∙ first-none,
)

-- ---- power loss

pub record MayLose (s : Network) (i : ℕ) : Type 0 where
  pub low : 1 ≤ i
  pub high : i ≤ n_of s
  pub live : down_at s (i - 1) ≡ false
  pub one_more : may_be_down (t_of s) (downs s + 1) ≡ true

pub may-lose : (s : Network) (i : ℕ) → (first_of (lose_trials s i) ≡ 0) ↔ MayLose s i
unfolding lose_trials
may-lose s i = (
  λ z.
      let p = passed (lose_trials s i) z in
      let b = (panel-iff (n_of s) i).0 (not-false _ p.0) in
      record { low = b.0; high = b.1; live = p.1.0; one_more = not-false _ p.1.1.0 },
  λ h.
      first-not _ _ (ap not ((panel-iff (n_of s) i).1 (h.low, h.high)))
      ∙ first-not _ _ h.live
      ∙ first-not _ _ (ap not h.one_more)
      ∙ first-none,
)
