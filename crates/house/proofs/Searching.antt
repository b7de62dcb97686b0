-- What the search finds: a message in flight to a live panel, with none before it by sender, then receiver, then kind; in a network in
-- form one between two of its panels; and nothing only where nothing is in flight to a live panel.
-- Assumes nothing.
use mathlib.Core.{Bool.{Bool, true, false}, Logic.{◌≢◌, ⊎_elim}, Path.{◌≡◌, refl, sym, ap, subst, ◌∙◌}}
use Prim.Native.Nat.{ℕ, zero, suc, ◌+◌, ◌-◌, ◌≤◌, ◌<◌}
use Rattle.std.specs.Prelude.{Option, Some, None}
use Rattle.std.specs.Option.{option_or}
use Rattle.std.proofs.lemmas.Option.{none-some, same_Some}
use native.Mathlib.{Decide.dec_lt, Nat.{not-suc-le-zero, eq-or-lt_of_le, le_of_suc-le-suc}, Omega.arith}
use Rattle.basics.{proofs.Choices.{ite-case, clash, both_left, both_right, both_true}, specs.Choice.both}
use Rattle.channels.{proofs.Flying.{has-iff, none-empty}, proofs.RowForm.{RowForm, row_ok-iff}, specs.Channels.{no_channel, in_flight, has}}
use Rattle.channels.specs.declared.Channel.{Channel}
use Rattle.house.specs.{Places.{row_at, channel_of, n_of}, Search.{nowhere, live, first_below, spot_at, of_pair, of_sender, first_in, flying}}
use Rattle.house.specs.declared.{InFlight.InFlight, Network.Network}
use Rattle.house.proofs.{NetForms.Formed, Turns.{first-none, first_step, spot}}

-- ---- the first below a bound

-- the first of f below n is x: where it stands, and that f finds nothing before
record First (n : ℕ) (f : ℕ → Option InFlight) (x : InFlight) : Type 0 where
  place : ℕ
  below : place < n
  is : f place ≡ Some x
  before : (k : ℕ) → k < place → f k ≡ nowhere

-- what is found one place on, where o is found before
at-step : (n : ℕ) (f : ℕ → Option InFlight) {o r : Option InFlight} → first_below n f ≡ o → first_below (suc n) f ≡ r → option_or o (f n) ≡ r
at-step n f q e = sym (first_step n f ∙ ap (λ p. option_or p (f n)) q) ∙ e

nothing-below : (n : ℕ) (f : ℕ → Option InFlight) → first_below n f ≡ nowhere → (k : ℕ) → k < n → f k ≡ nowhere
nothing-below zero f e k h = absurd (not-suc-le-zero h)
nothing-below (suc n) f e k h = by (first_below n f) refl (nothing-below n f)
  where
    by : (o : Option InFlight) → first_below n f ≡ o → (first_below n f ≡ nowhere → (m : ℕ) → m < n → f m ≡ nowhere) → f k ≡ nowhere
    by (Some x) q lower = absurd (none-some x (sym (at-step n f q e)))
    by None q lower = ⊎_elim (λ (l : k ≡ n). ap f l ∙ at-step n f q e) (λ (l : k < n). lower q k l) (eq-or-lt_of_le (le_of_suc-le-suc h))

first_below_lem : (n : ℕ) (f : ℕ → Option InFlight) (x : InFlight) → first_below n f ≡ Some x → First n f x
first_below_lem zero f x e = absurd (none-some x (sym (first-none f) ∙ e))
first_below_lem (suc n) f x e = by (first_below n f) refl (first_below_lem n f x)
  where
    by : (o : Option InFlight) → first_below n f ≡ o → (first_below n f ≡ Some x → First n f x) → First (suc n) f x
    by (Some y) q lower =
        let r : First n f x = lower (q ∙ at-step n f q e) in
        record { place = r.place; below = omega (arith, r.below); is = r.is; before = r.before }
    by None q lower = record { place = n; below = omega arith; is = at-step n f q e; before = nothing-below n f q }

-- ---- nothing found

-- nothing of kind k is in flight from place i to place j, where that is a live panel
abbrev pub Free : Network → ℕ → ℕ → ℕ → Type 0
Free s i j k = live s j ≡ true → has (channel_of s i j) k ≡ false

module _ (s : Network) (i j k : ℕ) where
  there : (x : InFlight) → spot_at s i j k ≡ Some x → (both (live s j) (has (channel_of s i j) k) ≡ true) × (spot i j k ≡ x)
  unfolding spot_at
  there x =
      ite-case (λ (o : Option InFlight). o ≡ Some x → (both (live s j) (has (channel_of s i j) k) ≡ true) × (spot i j k ≡ x)) _ _ _
      (λ e h. (e, same_Some _ _ h)) (λ e h. absurd (none-some x h))

  free : spot_at s i j k ≡ nowhere → Free s i j k
  unfolding spot_at
  free =
      ite-case (λ (o : Option InFlight). o ≡ nowhere → Free s i j k) (both (live s j) (has (channel_of s i j) k)) _ _
      (λ e h. absurd (none-some _ (sym h)))
      (λ e h l. not-both (has (channel_of s i j) k) l e)
    where
      not-both : {a : Bool} (b : Bool) → a ≡ true → both a b ≡ false → b ≡ false
      not-both true e h = clash h (both_true e refl)
      not-both false e h = refl

free-pair : (s : Network) (i j : ℕ) → of_pair s i j ≡ nowhere → (k : ℕ) → k < 4 → Free s i j k
unfolding of_pair
free-pair s i j e k h = free s i j k (nothing-below 4 (spot_at s i j) e k h)

free-sender : (s : Network) (i : ℕ) → of_sender s i ≡ nowhere → (j k : ℕ) → j < 7 → k < 4 → Free s i j k
unfolding of_sender
free-sender s i e j k h = free-pair s i j (nothing-below 7 (of_pair s i) e j h) k

pub none_found : (s : Network) → first_in s ≡ nowhere → (i j k : ℕ) → i < 7 → j < 7 → k < 4 → Free s i j k
unfolding first_in
none_found s e i j k h = free-sender s i (nothing-below 7 (of_sender s) e i h) j k

-- ---- what is found

-- a message in flight to a live panel, and none before it by sender, then receiver, then kind
pub record Hits (s : Network) (m : InFlight) : Type 0 where
  pub sender-low : 1 ≤ m.sender
  pub sender-high : m.sender ≤ 7
  pub receiver-low : 1 ≤ m.receiver
  pub receiver-high : m.receiver ≤ 7
  pub kind_known : m.kind < 4
  pub receiver-live : live s (m.receiver - 1) ≡ true
  pub in-flight : has (channel_of s (m.sender - 1) (m.receiver - 1)) m.kind ≡ true
  pub no-sender-before : (i j k : ℕ) → i < m.sender - 1 → j < 7 → k < 4 → Free s i j k
  pub no-receiver-before : (j k : ℕ) → j < m.receiver - 1 → k < 4 → Free s (m.sender - 1) j k
  pub no-kind-before : (k : ℕ) → k < m.kind → Free s (m.sender - 1) (m.receiver - 1) k

module _ (s : Network) (i j k : ℕ) where
  back : (x : ℕ) → x ≡ x + 1 - 1
  back x = omega arith

  at-spot :
      i < 7 → j < 7 → k < 4 → both (live s j) (has (channel_of s i j) k) ≡ true → ((x : ℕ) → x < i → of_sender s x ≡ nowhere) →
      ((y : ℕ) → y < j → of_pair s i y ≡ nowhere) → ((l : ℕ) → l < k → spot_at s i j l ≡ nowhere) → Hits s (spot i j k)
  at-spot hi hj hk test senders receivers kinds =
      record {
        sender-low = omega arith;
        sender-high = omega arith;
        receiver-low = omega arith;
        receiver-high = omega arith;
        kind_known = hk;
        receiver-live = subst (λ (y : ℕ). live s y ≡ true) (back j) (both_left _ _ test);
        in-flight = subst (λ (x : ℕ). has (channel_of s x (j + 1 - 1)) k ≡ true) (back i)
            (subst (λ (y : ℕ). has (channel_of s i y) k ≡ true) (back j) (both_right _ _ test));
        no-sender-before = λ x y l h. free-sender s x (senders x (omega arith)) y l;
        no-receiver-before = λ y l h m. subst (λ (x : ℕ). Free s x y l) (back i) (free-pair s i y (receivers y (omega arith)) l m);
        no-kind-before = λ l h.
            subst (λ (x : ℕ). Free s x (j + 1 - 1) l) (back i) (subst (λ (y : ℕ). Free s i y l) (back j) (free s i j l (kinds l h)));
      }

pub found : (s : Network) (m : InFlight) → first_in s ≡ Some m → Hits s m
unfolding first_in of_sender of_pair
found s m e =
    let a : First 7 (of_sender s) m = first_below_lem 7 (of_sender s) m e in
    let b : First 7 (of_pair s a.place) m = first_below_lem 7 (of_pair s a.place) m a.is in
    let c : First 4 (spot_at s a.place b.place) m = first_below_lem 4 (spot_at s a.place b.place) m b.is in
    let t = there s a.place b.place c.place m c.is in
    subst (Hits s) t.1 (at-spot s a.place b.place c.place a.below b.below c.below t.0 a.before b.before c.before)

-- ---- in a network in form

-- what is in flight goes from one of the n panels to another of them
pub record Between (s : Network) (i j : ℕ) : Type 0 where
  pub sender-within : i < n_of s
  pub receiver-within : j < n_of s
  pub apart : i ≢ j

none-there : (c : Channel) (k : ℕ) → c ≡ no_channel → has c k ≡ true → ⊥
none-there c k e h = omega (arith, (has-iff c k).0 h, ap (λ (d : Channel). in_flight d k) e ∙ none-empty k)

pub in-flight-between : (s : Network) → Formed s → (i j k : ℕ) → i < 7 → j < 7 → has (channel_of s i j) k ≡ true → Between s i j
in-flight-between s f i j k hi hj h =
    record { sender-within = sender (dec_lt i (n_of s)); receiver-within = receiver (dec_lt j (n_of s)); apart = λ e. none-there _ k (own e) h }
  where
    row : RowForm (row_at s i) (n_of s) i
    row = (row_ok-iff (row_at s i) (n_of s) i).0 (f.rows i hi)

    sender : Dec (i < n_of s) → i < n_of s
    sender (yes l) = l
    sender (no l) = absurd (none-there _ k (row.outside j hj (omega arith)) h)

    receiver : Dec (j < n_of s) → j < n_of s
    receiver (yes l) = l
    receiver (no l) = absurd (none-there _ k (row.past j hj (omega arith)) h)

    own : i ≡ j → channel_of s i j ≡ no_channel
    own e = ap (channel_of s i) (sym e) ∙ row.own hi

-- two different panels of n
pub record Pair (n i j : ℕ) : Type 0 where
  pub sender-low : 1 ≤ i
  pub sender-high : i ≤ n
  pub receiver-low : 1 ≤ j
  pub receiver-high : j ≤ n
  pub apart : i ≢ j

pub found-pair : (s : Network) → Formed s → (m : InFlight) → first_in s ≡ Some m → Pair (n_of s) m.sender m.receiver
found-pair s f m e =
    let h : Hits s m = found s m e in
    let b : Between s (m.sender - 1) (m.receiver - 1)
    = in-flight-between s f _ _ _ (omega (arith, h.sender-high)) (omega (arith, h.receiver-high)) h.in-flight in
    record {
      sender-low = h.sender-low;
      sender-high = omega (arith, b.sender-within);
      receiver-low = h.receiver-low;
      receiver-high = omega (arith, b.receiver-within);
      apart = λ q. b.apart (ap (λ (x : ℕ). x - 1) q);
    }

-- ---- the search looks at nothing but the channels and who is down

pub by-flying : (s : Network) → first_in (flying s.rows s.down) ≡ first_in s
unfolding first_in of_sender of_pair spot_at live
by-flying s = refl
