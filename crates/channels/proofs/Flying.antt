-- Counting what is in flight in one channel: one more joins, one is taken, and what "there is one" and "there is room" are in
-- numbers.
-- Assumes nothing.
use mathlib.Core.{Bool.{Bool, true, false, not}, Logic.{◌↔◌, ◌≢◌}, Path.{◌≡◌, refl, sym, subst, ◌∙◌}}
use Prim.Native.Nat.{ℕ, zero, suc, ◌+◌, ◌≤◌, ◌<◌}
use native.Mathlib.{Decide.{ℕ_discrete, dec_lt}, Omega.arith}
use lib.Dec.{ltb, eqb}
use borrow.Author.Tests.{ltb-true, lt-ltb, not-true}
use Rattle.basics.{proofs.Choices.{clash, ite-case, ite-true, ite-false}, proofs.Ones.{one_same, nought-apart}, specs.Below.one_if, specs.Choice.ite}
use Rattle.channels.specs.{Channels.{by_kind, no_channel, in_flight, has, room, joined, less}, declared.Channel.Channel}
use Rattle.channels.proofs.ByKind.{by_kind-pick, at_read, at-proceed, at_other, not_at, but-write0, but-write1, but-read, but-proceed, kind-case}

-- ---- what the code tests

pub one-there : (b : Bool) → ltb 0 (one_if b) ≡ b
unfolding one_if
one-there true = refl
one-there false = refl

-- what a match on the kind finds
pub ruleset kinds = (by_kind-pick, one-there)

-- and where there is room or none
pub ruleset joining = (by_kind-pick, ite-true, ite-false, ltb-true)

pub room-known : (c : Channel) (k : ℕ) → room c k ≡ true → k < 4
unfolding room
room-known c k =
    kind-case (λ (b : Bool). b ≡ true → k < 4) k
    (λ e h. omega arith) (λ e h. omega arith) (λ e h. omega arith) (λ e h. omega arith) (λ e h. clash refl h)

pub room-read : (c : Channel) {k : ℕ} → k ≡ 2 → room c k ≡ true → c.reads < 100
unfolding room
room-read c e h = ltb-true _ _ (sym (at_read _ _ _ _ _ e) ∙ h)

pub room-proceed : (c : Channel) {k : ℕ} → k ≡ 3 → room c k ≡ true → c.proceeds < 100
unfolding room
room-proceed c e h = ltb-true _ _ (sym (at-proceed _ _ _ _ _ e) ∙ h)

-- ---- how many may be in flight

-- "at most one WRITE of each bit and at most 100 READs and 100 PROCEEDs", and none of another kind
unfoldable pub cap : ℕ → ℕ
cap k = by_kind k 1 1 100 100 0

pub cap-write : {k : ℕ} → k < 2 → cap k ≡ 1
unfolding cap
cap-write {k} h =
    kind-case (λ (x : ℕ). x ≡ 1) k
    (λ _. refl) (λ _. refl) (λ (e : k ≡ 2). absurd (omega arith)) (λ (e : k ≡ 3). absurd (omega arith)) (λ e. absurd (omega arith))

pub cap-other : {k : ℕ} → 2 ≤ k → k < 4 → cap k ≡ 100
unfolding cap
cap-other {k} l h =
    kind-case (λ (x : ℕ). x ≡ 100) k
    (λ (e : k ≡ 0). absurd (omega arith)) (λ (e : k ≡ 1). absurd (omega arith)) (λ _. refl) (λ _. refl) (λ e. absurd (omega arith))

-- a WRITE's place is free where none is there
free : (b : Bool) → (not b ≡ true) ↔ (one_if b < 1)
unfolding one_if
free true = (λ e. clash refl e, λ h. absurd (omega arith))
free false = (λ _. omega arith, λ _. refl)

room-near : (c : Channel) (k : ℕ) → k < 4 → (room c k ≡ true) ↔ (in_flight c k < cap k)
unfolding room in_flight cap by_kind ite
room-near c zero h = free c.write0.full
room-near c (suc zero) h = free c.write1.full
room-near c (suc (suc zero)) h = (λ e. ltb-true _ _ e, λ l. lt-ltb _ _ l)
room-near c (suc (suc (suc zero))) h = (λ e. ltb-true _ _ e, λ l. lt-ltb _ _ l)
room-near c (suc (suc (suc (suc k)))) h = absurd (omega arith)

pub room-iff : (c : Channel) (k : ℕ) → (room c k ≡ true) ↔ ((k < 4) × (in_flight c k < cap k))
room-iff c k = (λ h. let l = room-known c k h in (l, (room-near c k l).0 h), λ h. (room-near c k h.0).1 h.1)

pub has-iff : (c : Channel) (k : ℕ) → (has c k ≡ true) ↔ (0 < in_flight c k)
unfolding has
has-iff c k = (λ h. ltb-true _ _ h, λ h. lt-ltb _ _ h)

-- of another kind there is nothing
pub none_other : (c : Channel) (k : ℕ) → 3 < k → in_flight c k ≡ 0
unfolding in_flight
none_other c k h = at_other _ _ _ _ _ h

pub none-empty : (k : ℕ) → in_flight no_channel k ≡ 0
unfolding in_flight one_if
none-empty k = kind-case (λ (x : ℕ). x ≡ 0) k (λ _. refl) (λ _. refl) (λ _. refl) (λ _. refl) (λ _. refl)

pub has-known : (c : Channel) (k : ℕ) → has c k ≡ true → k < 4
has-known c k h = by (dec_lt k 4)
  where
    by : Dec (k < 4) → k < 4
    by (yes l) = l
    by (no l) = absurd (omega (arith, none_other c k (omega arith), (has-iff c k).0 h))

-- ---- one more joins, and one is taken

-- the WRITE of a bit leaves nothing behind
one-gone : (b : Bool) → ltb 0 (one_if b) ≡ true → 1 ≡ one_if b
unfolding one_if
one-gone true h = refl
one-gone false h = clash refl h

joined-one : (c : Channel) (k v : ℕ) → room c k ≡ true → in_flight (joined c k v) k ≡ in_flight c k + 1
unfolding joined room in_flight by_kind ite one_if
joined-one c zero v h = simp (not-true c.write0.full h)
joined-one c (suc zero) v h = simp (not-true c.write1.full h)
joined-one c (suc (suc zero)) v h = simp h
joined-one c (suc (suc (suc zero))) v h = simp h
joined-one c (suc (suc (suc (suc k)))) v h = absurd (omega (arith, room-known c (suc (suc (suc (suc k)))) h))

less_one : (c : Channel) (k : ℕ) → has c k ≡ true → in_flight (less c k) k + 1 ≡ in_flight c k
unfolding less has in_flight by_kind ite one_if
less_one c zero h = one-gone c.write0.full h
less_one c (suc zero) h = one-gone c.write1.full h
less_one c (suc (suc zero)) h = omega (arith, ltb-true 0 c.reads h)
less_one c (suc (suc (suc zero))) h = omega (arith, ltb-true 0 c.proceeds h)
less_one c (suc (suc (suc (suc k)))) h = absurd (omega (arith, has-known c (suc (suc (suc (suc k)))) h))

module _ (c : Channel) (m : ℕ) where
  -- as many of kind m as in c
  abbrev Alike : Channel → Type 0
  Alike d = in_flight d m ≡ in_flight c m

  joined-ne : (k v : ℕ) → m ≢ k → Alike (joined c k v)
  unfolding joined in_flight
  joined-ne k v d =
      ite-case Alike (room c k) _ _
      (λ _. kind-case Alike k
      (λ e. but-write0 _ _ _ _ _ _ (not_at d e))
      (λ e. but-write1 _ _ _ _ _ _ (not_at d e))
      (λ e. but-read _ _ _ _ _ _ (not_at d e))
      (λ e. but-proceed _ _ _ _ _ _ (not_at d e))
      (λ _. refl))
      (λ _. refl)

  less-ne : (k : ℕ) → m ≢ k → Alike (less c k)
  unfolding less in_flight
  less-ne k d =
      kind-case Alike k
      (λ e. but-write0 _ _ _ _ _ _ (not_at d e))
      (λ e. but-write1 _ _ _ _ _ _ (not_at d e))
      (λ e. but-read _ _ _ _ _ _ (not_at d e))
      (λ e. but-proceed _ _ _ _ _ _ (not_at d e))
      (λ _. refl)

  pub joined-adds : (k v : ℕ) → room c k ≡ true → in_flight (joined c k v) m ≡ in_flight c m + one_if (eqb m k)
  joined-adds k v h = by (ℕ_discrete m k)
    where
      by : Dec (m ≡ k) → in_flight (joined c k v) m ≡ in_flight c m + one_if (eqb m k)
      by (yes e) = omega (arith, subst (λ (x : ℕ). in_flight (joined c k v) x ≡ in_flight c x + 1) (sym e) (joined-one c k v h), one_same e)
      by (no d) = omega (arith, joined-ne k v d, nought-apart d)

  pub less-takes : (k : ℕ) → has c k ≡ true → in_flight (less c k) m + one_if (eqb m k) ≡ in_flight c m
  less-takes k h = by (ℕ_discrete m k)
    where
      by : Dec (m ≡ k) → in_flight (less c k) m + one_if (eqb m k) ≡ in_flight c m
      by (yes e) = omega (arith, subst (λ (x : ℕ). in_flight (less c k) x + 1 ≡ in_flight c x) (sym e) (less_one c k h), one_same e)
      by (no d) = omega (arith, less-ne k d, nought-apart d)
