-- What flies to a panel after one message came to it: one less of that kind from that sender, and all else as it was.
-- Assumes nothing.
use Prim.Native.Nat.{ℕ, suc}
use mathlib.Core.{Logic.◌≢◌, Path.{◌≡◌, subst}}
use Rattle.protocol.specs.World.{World, Out, Delivers}

module _ {q p k : ℕ} {out : Out} {s s' : World} (h : Delivers q p k out s s') where
  pub kind-else : (l m : ℕ) → l ≢ p → m ≢ k → s'.flying l p m ≡ s.flying l p m
  kind-else l m d e = h.flown l p m d (λ _ _. e)

  pub sender-else : (l m : ℕ) → l ≢ p → l ≢ q → s'.flying l p m ≡ s.flying l p m
  sender-else l m d e = h.flown l p m d (λ f. absurd (e f))

  pub one_less : (m : ℕ) → k ≡ m → suc (s'.flying q p m) ≡ s.flying q p m
  one_less m e = subst (λ (x : ℕ). suc (s'.flying q p x) ≡ s.flying q p x) e h.gone
