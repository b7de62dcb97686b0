-- Refusal 14 never comes: a pair of panels has at most one WRITE of each bit in flight, and not more READs and PROCEEDs than reads.
-- Assumes nothing.
use Prim.Native.Nat.{ℕ, suc, ◌%◌, ◌≤◌, ◌<◌}
use mathlib.Core.{Logic.◌≢◌, Path.{◌≡◌, sym, subst}}
use native.Mathlib.{Decide.ℕ_discrete, Omega.arith}
use Rattle.protocol.specs.{Invariant.{none, Inv}, World.{World, W, R}}
use Rattle.protocol.proofs.{Around.writes-around, TakingOne.ahead}

module _ {n writer : ℕ} {s : World} (v : Inv n writer none s) (i j : ℕ) (bi : i < n) (bj : j < n) (d : i ≢ j) where
  pub one-write : (k : ℕ) → k < 2 → s.flying i j k ≤ 1
  one-write k b = at (ℕ_discrete k (W s j i % 2))
    where
      at : Dec (k ≡ W s j i % 2) → s.flying i j k ≤ 1
      at (yes e) = subst (λ (x : ℕ). s.flying i j x ≤ 1) (sym e) (omega (arith, ahead (writes-around v bj) i bi d, (v.pair i j bi bj d).two))
      at (no f) = let e : k ≡ suc (W s j i) % 2 = omega arith in subst (λ (x : ℕ). s.flying i j x ≤ 1) (sym e) (omega (arith, (v.pair i j bi bj d).one))

  pub reads-most : s.flying i j 2 ≤ R s i i
  reads-most = omega (arith, v.reads i j bi bj d)

  pub proceeds-most : s.flying i j 3 ≤ R s j j
  proceeds-most = omega (arith, v.reads j i bj bi (λ e. d (sym e)))
