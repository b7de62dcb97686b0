-- Refusals 11, 12 and 13 never come to a message in flight: the invariant rules out what each of them asks about.
-- Assumes nothing.
use Prim.Native.Nat.{ℕ, suc, ◌%◌, ◌≤◌, ◌<◌}
use mathlib.Core.{Logic.◌≢◌, Path.{◌≡◌, sym, subst}}
use native.Mathlib.Omega.{arith}
use Rattle.protocol.specs.{Invariant.{none, Inv}, World.{World, W, R}}
use Rattle.protocol.proofs.{Around.writes-around, TakingOne.ahead}

module _ {n writer : ℕ} {s : World} (v : Inv n writer none s) (q p : ℕ) (bq : q < n) (bp : p < n) (d : q ≢ p) where
  module _ (k : ℕ) (there : 1 ≤ s.flying q p k) where
    -- 11: the number of a WRITE in flight is at most what the writer wrote
    pub next-written : k ≡ suc (W s p q) % 2 → suc (W s p q) ≤ W s writer writer
    next-written bit =
        let one : 1 ≤ s.flying q p (suc (W s p q) % 2) = subst (λ (x : ℕ). 1 ≤ s.flying q p x) bit there in
        omega (arith, one, (v.pair q p bq bp d).one, v.top q bq)

    pub after-next-written : k ≡ W s p q % 2 → suc (suc (W s p q)) ≤ W s writer writer
    after-next-written bit =
        let one : 1 ≤ s.flying q p (W s p q % 2) = subst (λ (x : ℕ). 1 ≤ s.flying q p x) bit there in
        omega (arith, one, (v.pair q p bq bp d).two, v.top q bq)

    -- 11: where a WRITE must be held, none is held
    pub hold-free : k ≡ W s p q % 2 → (s.panel p).held q ≡ 0
    hold-free bit =
        let one : 1 ≤ s.flying q p (W s p q % 2) = subst (λ (x : ℕ). 1 ≤ s.flying q p x) bit there in
        omega (arith, one, (v.pair q p bq bp d).two, ahead (writes-around v bp) q bq d)

  -- 12: a PROCEED in flight answers a read
  pub read-open : 1 ≤ s.flying q p 3 → R s p q < R s p p
  read-open there = omega (arith, there, v.reads p q bp bq (λ e. d (sym e)))

  -- 13: a READ in flight finds room in the line
  pub line-free : 1 ≤ s.flying q p 2 → R s q q ≤ 100 → (s.panel p).waiting q < 100
  line-free there few = omega (arith, there, few, v.reads q p bq bp d)
