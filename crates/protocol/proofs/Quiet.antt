-- Where nothing flies to a live panel, the live panels agree: each knows each other's write number, and has all its answers.
-- Assumes nothing.
use Prim.Native.Nat.{ℕ, suc, ◌%◌, ◌<◌, min}
use mathlib.Core.{Bool.{Bool, true}, Logic.◌≢◌, Path.{◌≡◌, refl, sym, ap}}
use native.Mathlib.{Decide.ℕ_discrete, Omega.arith}
use Rattle.protocol.specs.{Invariant.{none, Inv}, World.{World, W, R}}
use Rattle.protocol.proofs.Pairs.{all-taken, level}

module _ {n writer : ℕ} {s : World} (v : Inv n writer none s) (live : ℕ → Bool)
    (still : (i j k : ℕ) → i < n → j < n → i ≢ j → live j ≡ true → k < 4 → s.flying i j k ≡ 0)
    (no_line : (i j : ℕ) → i < n → j < n → W s j i ≡ W s j j → (s.panel j).waiting i ≡ 0) where
  taken : (i j : ℕ) → i < n → j < n → i ≢ j → live j ≡ true → min (W s i i) (suc (W s i j)) ≡ W s j i
  taken i j bi bj d u =
      (all-taken (still i j (suc (W s j i) % 2) bi bj d u (omega arith)) (still i j (W s j i % 2) bi bj d u (omega arith)) refl (v.pair i j bi bj d)).0

  both-know : (i j : ℕ) → i < n → j < n → i ≢ j → live i ≡ true → live j ≡ true → (W s i j ≡ W s i i) × (W s j i ≡ W s j j)
  both-know i j bi bj d ui uj = level (v.own i j bi bj) (v.own j i bj bi) (taken i j bi bj d uj) (taken j i bj bi (λ e. d (sym e)) ui)

  pub all_known : (i j : ℕ) → i < n → j < n → live i ≡ true → live j ≡ true → W s i j ≡ W s i i
  all_known i j bi bj ui uj = at (ℕ_discrete i j)
    where
      at : Dec (i ≡ j) → W s i j ≡ W s i i
      at (yes e) = ap (λ (x : ℕ). W s i x) (sym e)
      at (no d) = (both-know i j bi bj d ui uj).0

  pub all-answered : (i j : ℕ) → i < n → j < n → live i ≡ true → live j ≡ true → R s i j ≡ R s i i
  all-answered i j bi bj ui uj = at (ℕ_discrete i j)
    where
      at : Dec (i ≡ j) → R s i j ≡ R s i i
      at (yes e) = ap (λ (x : ℕ). R s i x) (sym e)
      at (no d) =
          omega (
            arith,
            v.reads i j bi bj d,
            still i j 2 bi bj d uj (omega arith),
            still j i 3 bj bi (λ e. d (sym e)) ui (omega arith),
            no_line i j bi bj (both-know i j bi bj d ui uj).1,
          )
