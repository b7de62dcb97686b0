-- The laws of one ordered pair of panels, by numbers alone: m WRITEs ever sent, k taken, near and far in flight, held, in hand.
-- Assumes nothing.
use Prim.Native.Nat.{ℕ, suc, ◌+◌, ◌-◌, ◌%◌, ◌≤◌, min}
use mathlib.Core.Path.{◌≡◌, sym, subst}
use native.Mathlib.{Decide.ℕ_discrete, Omega.arith}
use Rattle.protocol.specs.Invariant.{Pair}

pub pair_same :
    {m m' k k' near near' far far' held held' hand hand' : ℕ} → m' ≡ m → k' ≡ k → near' ≡ near → far' ≡ far → held' ≡ held → hand' ≡ hand
    → Pair m k near far held hand → Pair m' k' near' far' held' hand'
pair_same em ek en ef eh eg p = omega arith

-- number k + 1 leaves the channel into the hand
pub to-hand : {m k near far held : ℕ} → Pair m k (suc near) far held 0 → Pair m k near far held 1
to-hand p = omega arith

-- number k + 2 leaves the channel and is held
pub to-hold : {m k near far held hand : ℕ} → m ≤ k + 2 → Pair m k near (suc far) held hand → Pair m k near far 1 hand
to-hold b p = omega arith

-- what the hand has is taken, and what was held comes into the hand
pub from-hand : {m k near far held : ℕ} → m ≤ k + 2 → Pair m k near far held 1 → Pair m (suc k) far near 0 held
from-hand b p = omega arith

-- nothing is in flight or in hand: all that was sent is taken, and nothing is held
pub all-taken : {m k near far held hand : ℕ} → near ≡ 0 → far ≡ 0 → hand ≡ 0 → Pair m k near far held hand → (m ≡ k) × (held ≡ 0)
all-taken a b c p = omega arith

-- all is taken both ways: each of two panels knows what the other has. a, b are the one's numbers of itself and of the other; c, d the other's
pub level : {a b c d : ℕ} → b ≤ a → d ≤ c → min a (suc b) ≡ d → min c (suc d) ≡ b → (b ≡ a) × (d ≡ c)
level x y e f = omega arith

pub two-on : (x : ℕ) → suc (suc x) % 2 ≡ x % 2
two-on x = omega arith

-- the sender sends what is due by now: f and f' are its channel by bits, m and m' what it has ever sent
module _ (f f' : ℕ → ℕ) (k m' held hand : ℕ) where
  abbrev Sending : ℕ → Type 0
  Sending m =
      Pair m k (f (suc k % 2)) (f (k % 2)) held hand → m ≤ m' → m' ≤ suc m → m' ≤ k + 2 → f' (suc m % 2) ≡ f (suc m % 2) + (m' - m) → f' (m % 2) ≡ f (m % 2)
      → Pair m' k (f' (suc k % 2)) (f' (k % 2)) held hand

  none_ahead : Sending k
  none_ahead v l u b next else = omega arith

  one-ahead : Sending (suc k)
  one-ahead v l u b next else =
      let e : f' (k % 2) ≡ f (k % 2) + (m' - suc k) = rw two-on at next in
      omega arith

  two-ahead : Sending (suc (suc k))
  two-ahead v l u b next else =
      let e : f' (suc k % 2) ≡ f (suc k % 2) + (m' - suc (suc k)) = rw (two-on (suc k)) at next in
      let e' : f' (k % 2) ≡ f (k % 2) = rw two-on at else in
      omega arith

  pub sending : (m : ℕ) → Sending m
  sending m = ahead (ℕ_discrete m k) (ℕ_discrete m (suc k))
    where
      ahead : Dec (m ≡ k) → Dec (m ≡ suc k) → Sending m
      ahead (yes e) b = subst Sending (sym e) none_ahead
      ahead (no a) (yes e) = subst Sending (sym e) one-ahead
      ahead (no a) (no b) = λ v l u c next else. (let e : m ≡ suc (suc k) = omega arith in subst Sending (sym e) two-ahead) v l u c next else
