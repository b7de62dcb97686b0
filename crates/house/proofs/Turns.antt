-- The laws by which the loops go, for the code: those over all places, and the search's three.
-- Assumes nothing.
use mathlib.Core.{Bool.{Bool, true, false, not}, Logic.⊎_elim, Path.{◌≡◌, refl, sym, ap, ◌∙◌}}
use Prim.Native.Nat.{ℕ, zero, suc, ◌+◌, ◌<◌}
use Rattle.std.specs.Prelude.{Option, Some}
use Rattle.std.specs.Option.{option_or}
use native.Mathlib.{Nat.{not-suc-le-zero, eq-or-lt_of_le, le_of_suc-le-suc}, Numerals.add-one}
pub use Rattle.basics.proofs.Below.{all-next}
use Rattle.basics.{proofs.Choices.{ite-true, ite-false, both_true, both-false-left, both-false-right}, specs.Below.all_below}
use Rattle.channels.specs.Channels.{has}
use Rattle.house.specs.{Places.{channel_of, down_at}, Search.{nowhere, live, first_below, spot_at, of_pair, of_sender, first_in}}
use Rattle.house.specs.declared.{InFlight.InFlight, Network.Network}

-- ---- a test of all places

pub all-none : (f : ℕ → Bool) → all_below 0 f ≡ true
unfolding all_below
all-none f = refl

pub ruleset all_turns = (all-none, all-next)

-- ---- the first below a bound

pub first-none : (f : ℕ → Option InFlight) → first_below 0 f ≡ nowhere
unfolding first_below
first-none f = refl

pub first_next : (k : ℕ) (f : ℕ → Option InFlight) → first_below k f ≡ nowhere → f k ≡ nowhere → first_below (k + 1) f ≡ nowhere
unfolding first_below
first_next k f e h = simp (add-one, e, h)

pub first_step : (n : ℕ) (f : ℕ → Option InFlight) → first_below (suc n) f ≡ option_or (first_below n f) (f n)
unfolding first_below
first_step n f = refl

-- what is found first is found, however far one looks
pub first-hit : (n m : ℕ) (f : ℕ → Option InFlight) {x : InFlight} → m < n → first_below m f ≡ nowhere → f m ≡ Some x → first_below n f ≡ Some x
first-hit zero m f h e t = absurd (not-suc-le-zero h)
first-hit (suc n) m f h e t =
    first_step n f
    ∙ ⊎_elim
    (λ (q : m ≡ n). simp (sym q, e, t))
    (λ (l : m < n). simp (first-hit n m f l e t))
    (eq-or-lt_of_le (le_of_suc-le-suc h))

-- ---- nothing found by a whole loop, which ends at e

pub pair-none : (s : Network) (i j : ℕ) {e : ℕ} → e ≡ 4 → first_below e (spot_at s i j) ≡ nowhere → of_pair s i j ≡ nowhere
unfolding of_pair
pair-none s i j end none = ap (λ (e : ℕ). first_below e (spot_at s i j)) (sym end) ∙ none

pub sender-none : (s : Network) (i : ℕ) {e : ℕ} → e ≡ 7 → first_below e (of_pair s i) ≡ nowhere → of_sender s i ≡ nowhere
unfolding of_sender
sender-none s i end none = ap (λ (e : ℕ). first_below e (of_pair s i)) (sym end) ∙ none

pub all_none : (s : Network) {e : ℕ} → e ≡ 7 → first_below e (of_sender s) ≡ nowhere → first_in s ≡ nowhere
unfolding first_in
all_none s end none = ap (λ (e : ℕ). first_below e (of_sender s)) (sym end) ∙ none

-- ---- one turn: from place i to place j, kind k

abbrev pub spot : ℕ → ℕ → ℕ → InFlight
spot i j k = record { sender = i + 1; receiver = j + 1; kind = k }

module _ (s : Network) (i j k : ℕ) where
  pub spot-down : down_at s j ≡ true → spot_at s i j k ≡ nowhere
  unfolding spot_at live
  spot-down e = ite-false _ _ (both-false-left _ (ap not e))

  -- t is what the channel has, as the code holds it
  module _ {t : Bool} (there : t ≡ has (channel_of s i j) k) where
    pub spot-gone : t ≡ false → spot_at s i j k ≡ nowhere
    unfolding spot_at
    spot-gone e = ite-false _ _ (both-false-right _ (sym there ∙ e))

    pub spot-hit : down_at s j ≡ false → t ≡ true → spot_at s i j k ≡ Some (spot i j k)
    unfolding spot_at live
    spot-hit d e = ite-true _ _ (both_true (ap not d) (sym there ∙ e))

    pub hit-is :
        i < 7 → j < 7 → k < 4 → first_below i (of_sender s) ≡ nowhere → first_below j (of_pair s i) ≡ nowhere → first_below k (spot_at s i j) ≡ nowhere →
        down_at s j ≡ false → t ≡ true → first_in s ≡ Some (spot i j k)
    unfolding first_in of_sender of_pair
    hit-is hi hj hk ei ej ek d e =
        first-hit 7 i (of_sender s) hi ei (first-hit 7 j (of_pair s i) hj ej (first-hit 4 k (spot_at s i j) hk ek (spot-hit d e)))

pub ruleset search_turns = (first-none, first_next, pair-none, sender-none, all_none, spot-down, spot-gone)
